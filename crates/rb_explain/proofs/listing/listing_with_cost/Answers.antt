use Rattle.std.proofs.Common.{◌++◌, ◌∙◌, ap}
use Rattle.std.specs.Prelude.{string_bytes}
use Rattle.rb_explain.proofs.listing.listing_with_cost.Goals as goal

pub returns : goal.returns
returns c = record {
  listed = record {
    lines = string_bytes c.in_ok-text.text;
    listed = c.in_ok-text.ensures.listed;
    cost = c.in_ok-cost.cost;
    exact = c.in_ok-cost.ensures;
    text_is = c.in_ok-push_str.ensures.bytes ∙ ap (λ lines. string_bytes c.in_ok-text.text ++ lines) (c.as_str.ensures.value ∙ c.in_ok-lines.ensures.text);
  };
}
