use Rattle.std.proofs.Common.{◌*◌, ◌^◌, ap, ◌∙◌}
use Rattle.rb_linux_ring.proofs.PageHeaders.{page_window}
use Rattle.rb_linux_ring.proofs.header_window.linux_window.Goals as goal

pub returns : goal.returns
returns c =
    let first_is = c.empty_header.ensures ∙ ap (λ x. x * 2 ^ 32) c.page_in_header-page.ensures in
    record {
      window =
          page_window c.args.size c.args.position c.args.pages_before_data _ _ _ c.requires.place c.requires.pages first_is
          c.max_len.ensures c.page_end.ensures;
    }
