-- Contexts of one form: those of another length are skipped, padded with zeros or cut (own).
use Rattle.std.specs.Prelude.{ℕ, ◌≡◌, ◌+◌, ◌-◌, ◌≤◌, ◌^◌, ◌==◌, nat_le, nat_lt, min, Bool, true, false, not, if◌then◌else◌, List, [], ◌∷◌, ◌++◌, length, take, replicate, map, filter, count_by}
use Rattle.std.specs.Int.{w32, to_le_bytes}
use Rattle.rb_source.specs.declared.form.Fit.{Fit}
use Rattle.rb_source.specs.declared.form.Fit.TheVariants.{Exact, Pad, Cut}
use Rattle.rb_source.specs.declared.form.Form.{Form}
use Rattle.rb_source.specs.declared.counts.ContextCounts.{ContextCounts}

-- the length of contexts of this form: with the true length in front there are four more bytes
abbrev pub form_len : Form → ℕ
form_len form = if form.with_length then form.len + 4 else form.len

-- a form of contexts that fit into a piece
abbrev pub IsForm : Form → Type 0
IsForm form = form_len form ≤ 65536

-- whether a context that arrived with `total` bytes is given, if `len` are requested
abbrev pub fits : Fit → ℕ → ℕ → Bool
fits Exact len total = total == len
fits Pad len total = nat_le total len
fits Cut len total = true

-- whether it is cut
abbrev pub is_cut : Fit → ℕ → ℕ → Bool
is_cut Exact len total = false
is_cut Pad len total = false
is_cut Cut len total = nat_lt len total

-- the largest u32
abbrev pub largest_u32 : ℕ
largest_u32 = 4294967295

-- the context of which `total` bytes arrived, beginning with these: the true length if it is requested, the bytes up to
-- the requested length, and zeros
abbrev pub formed : Form → List ℕ → ℕ → List ℕ
formed form front total =
    (if form.with_length then to_le_bytes w32 total else []) ++ (take (min total form.len) front ++ replicate (form.len - min total form.len) 0)

-- the context made of the bytes that arrived. A length of 2^32 or more is shown as 2^32 - 1
abbrev pub context_of : Form → List ℕ → List ℕ
context_of form came = formed form came (min (length came) largest_u32)

abbrev pub is_given : Form → List ℕ → Bool
is_given form came = fits form.fit form.len (length came)

-- what is given of all that arrived, in order
abbrev pub contexts_of : Form → List (List ℕ) → List (List ℕ)
contexts_of form came = map (context_of form) (filter (is_given form) came)

-- a 64-bit count, which saturates at its largest value
abbrev pub saturated : ℕ → ℕ
saturated n = min n 18446744073709551615

-- the counts after these contexts arrived: what was given, what was skipped, and what was given and cut
abbrev pub counts_after : Form → ContextCounts → List (List ℕ) → ContextCounts
counts_after form counts came = record {
  given = saturated (counts.given + count_by (is_given form) came);
  skipped = saturated (counts.skipped + count_by (λ c. not (is_given form c)) came);
  cut = saturated (counts.cut + count_by (λ c. is_cut form.fit form.len (length c)) came);
}
