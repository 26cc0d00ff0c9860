-- A buffered writer and a buffered reader (own).
use Rattle.std.specs.Prelude.{ℕ, ◌≡◌, Bool, true, List, [], ◌++◌, Option}
use Rattle.std.specs.Io.KnownBytes.{Appends}

-- the underlying writer, and the bytes that were accepted and not written to it yet, the oldest first
pub record Gathered (W : Type 0) : Type 0 where
  pub writer : W
  pub waiting : List ℕ

-- The waiting bytes are written: a prefix of them went to the underlying writer, and the rest still waits. Nothing
-- waits if the call succeeded. `contents` are the bytes that the underlying writer has, if they are known.
pub record HandsOn {W : Type 0} (contents : W → Option (List ℕ)) (old : Gathered W) (ok : Bool) (new : Gathered W) : Type 0 where
  pub part : List ℕ
  pub went : Appends (contents old.writer) (contents new.writer) part
  pub beginning : part ++ new.waiting ≡ old.waiting
  pub all_went : ok ≡ true → new.waiting ≡ []

-- the underlying reader, and the bytes that were read from it and not consumed yet, the oldest first
pub record ReadOn (R : Type 0) : Type 0 where
  pub reader : R
  pub at_hand : List ℕ
