-- Bounds of a ring that are satisfied.
use Rattle.std.proofs.Common.{◌≡◌, ℕ, refl, sym, subst, arith}
use Rattle.rb_history.specs.RingModel.{IsRingSize, IsStartPosition, IsWorkerCount}
use Rattle.rb_chapter_ring.specs.Chapters.{IsChapterRoom}

-- the minimum size is valid
pub least_size : {size : ℕ} → size ≡ 4096 → IsRingSize size
least_size refl = ((12, refl), omega arith, omega arith)

pub first_start : {start : ℕ} → start ≡ 0 → IsStartPosition start
first_start e = subst IsStartPosition (sym e) (refl, omega arith)

pub one_worker : {workers : ℕ} → workers ≡ 1 → IsWorkerCount workers
one_worker e = (omega arith, omega arith)

pub default_room : {room : ℕ} → room ≡ 65536 → IsChapterRoom room
default_room e = (omega arith, omega arith)
