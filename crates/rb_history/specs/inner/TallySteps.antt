-- A worker's counts, entry by entry.
use Rattle.std.specs.Prelude.{ℕ, ◌+◌, ◌<◌, ◌≤◌, ◌^◌, cond, List}
use Rattle.std.specs.List.{count_by}
use Rattle.rb_history.specs.declared.entries.Entry.{Entry}
use Rattle.rb_history.specs.History.{is_grant_of, is_grant_at}
use Rattle.rb_history.specs.declared.tally.Tally.{Tally}
use Rattle.rb_history.specs.WorkerCounts.{is_refusal_of, is_submit_of, is_discard_of}

-- the four counts after the entry, where h is the history before it: the count of the entry's kind grows by one
abbrev pub tally_with_entry : ℕ → List Entry → Entry → Tally → Tally
tally_with_entry w h e t = record {
  made = t.made + cond (is_grant_of w e) 1 0;
  refused = t.refused + cond (is_refusal_of w e) 1 0;
  submitted = t.submitted + cond (is_submit_of w h e) 1 0;
  discarded = t.discarded + cond (is_discard_of w h e) 1 0;
}

-- each count fits in 64 bits
pub record IsCountable (t : Tally) : Type 0 where
  pub made_fits : t.made < 2 ^ 64
  pub refused_fits : t.refused < 2 ^ 64
  pub submitted_fits : t.submitted < 2 ^ 64
  pub discarded_fits : t.discarded < 2 ^ 64

-- no position is granted twice
abbrev pub GrantsOnce : List Entry → Type 0
GrantsOnce h = (p : ℕ) → count_by (is_grant_at p) h ≤ 1
