-- One context that arrived, given or skipped, and counted.
use Rattle.std.specs.Prelude.{ℕ, ◌≡◌, ◌+◌, Bool, if◌then◌else◌, not, min, List, [], ◌∷◌, length, take}
use Rattle.rb_source.specs.declared.form.Form.{Form}
use Rattle.rb_source.specs.declared.counts.ContextCounts.{ContextCounts}
use Rattle.rb_source.specs.Form.{fits, formed, is_cut, largest_u32, saturated}

-- one more, if it counts
abbrev pub saturated_by : ℕ → Bool → ℕ
saturated_by n counts = saturated (n + (if counts then 1 else 0))

-- what is given of a context of which `total` bytes arrived, beginning with these
abbrev pub given_by : Form → List ℕ → ℕ → List (List ℕ)
given_by form front total = if fits form.fit form.len total then formed form front total ∷ [] else []

-- the counts after it
abbrev pub counted_by : Form → ContextCounts → ℕ → ContextCounts
counted_by form before total = record {
  given = saturated_by before.given (fits form.fit form.len total);
  skipped = saturated_by before.skipped (not (fits form.fit form.len total));
  cut = saturated_by before.cut (is_cut form.fit form.len total);
}

-- what arrived is known by its front, as far as it can be given, and by its length
pub record IsKnownBy (len : ℕ) (came front : List ℕ) (total : ℕ) : Type 0 where
  pub front_is : take len front ≡ take len came
  pub total_is : total ≡ min (length came) largest_u32
