-- What went through a buffer over a writer, once nothing waits in it.
use Rattle.std.proofs.Common.{◌≡◌, ◌∙◌, ℕ, List, [], Option, None, Some, Result, refl, sym, ap, subst, append-nil}
use Rattle.std.specs.Io.KnownBytes.{append_known}
use Rattle.rb_io.specs.Gathered.{Gathered}
use Rattle.rb_tape_commands.specs.Feed.{FeedResult, FeedsSome}
use Rattle.rb_tape_commands.specs.inner.FeedRuns.{feed_run}
use Rattle.rb_tape_commands.specs.declared.feed_fault.FeedFault.{FeedFault}
use Rattle.rb_tape_commands.proofs.Feeding.{passes_none}

nothing_behind : (known : Option (List ℕ)) → append_known known [] ≡ known
nothing_behind None = refl
nothing_behind (Some bytes) = ap Some (append-nil bytes)

-- the underlying writer has all bytes
all_written : {W : Type 0} (contents : W → Option (List ℕ)) (b : Gathered W) (writer : W) → b.writer ≡ writer → b.waiting ≡ [] → append_known (contents b.writer) b.waiting ≡ contents writer
all_written contents b writer same none = ap (λ waiting. append_known (contents b.writer) waiting) none ∙ nothing_behind (contents b.writer) ∙ ap contents same

-- `first` is the writer before the buffer was made, and `last` after it was taken apart
pub fed_through : {W : Type 0} (contents : W → Option (List ℕ)) (old new : Gathered W) (first last : W) → old.writer ≡ first → old.waiting ≡ [] → last ≡ new.writer → new.waiting ≡ []
    → (size start : ℕ) (u v : Option (List ℕ)) (r : Result (ℕ × ℕ) FeedFault)
    → FeedResult (feed_run size start u v (append_known (contents old.writer) old.waiting) (append_known (contents new.writer) new.waiting)) r
    → (left : Option (List ℕ)) × FeedResult (feed_run size start u left (contents first) (contents last)) r
fed_through contents old new first last opened empty closed flushed size start u v r fed =
    let before = subst (λ h. FeedResult (feed_run size start u v h (append_known (contents new.writer) new.waiting)) r) (all_written contents old first opened empty) fed in
    (v, subst (λ f. FeedResult (feed_run size start u v (contents first) f) r) (all_written contents new last (sym closed) flushed) before)

-- no buffer could be allocated
pub nothing_fed : (size start : ℕ) (u h f : Option (List ℕ)) → f ≡ h → (left : Option (List ℕ)) × FeedsSome (feed_run size start u left h f)
nothing_fed size start u h f same = (u, subst (λ after. FeedsSome (feed_run size start u u h after)) (sym same) (record { payloads = []; more = []; fed = passes_none size start u h }))
