-- How a program's explanation is written to a buffer (own; rb_explain defines the explanation).
use Rattle.std.specs.Prelude.{◌≡◌, ℕ, ◌<◌, List, Option, length}
use Rattle.rb_explain.specs.Explanations.{ExplainsBytes}
use Rattle.rb_explain.specs.declared.explanation.Reason.{Reason}
use Rattle.rb_json.specs.declared.form.LineForm.TheVariants.{Words}
use Rattle.heskavo_c.specs.Writing.{WritesFront}

-- The explanation of the bytes is at the front of the buffer, and has `wanted` bytes. The bytes are refused for this
-- reason, or accepted if there is none.
pub record ExplainsInto (bytes : List ℕ) (ctx_len rings : ℕ) (reason : Option Reason) (old new : List ℕ) (wanted : ℕ) : Type 0 where
  pub text : List ℕ
  pub explained : ExplainsBytes Words bytes (record { ctx_len = ctx_len; rings = rings }) reason text
  pub written : WritesFront text old new
  pub wanted_is : wanted ≡ length text

-- the explanation of the bytes has `wanted` bytes, more than the buffer
pub record WantsRoom (bytes : List ℕ) (ctx_len rings : ℕ) (buffer : List ℕ) (wanted : ℕ) : Type 0 where
  pub reason : Option Reason
  pub text : List ℕ
  pub explained : ExplainsBytes Words bytes (record { ctx_len = ctx_len; rings = rings }) reason text
  pub wanted_is : wanted ≡ length text
  pub longer : length buffer < wanted
