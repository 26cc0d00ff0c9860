use Rattle.std.specs.Prelude.{codes}
use Rattle.std.proofs.Common.{rules, ◌≡◌, ℕ, ◌++◌, ◌∙◌, ap, sym}
use Rattle.std.proofs.Output.{has_written_of_eq}
use mathlib.Core.List.{append_assoc}
use Rattle.rb_insn.specs.declared.reg.Reg.{Reg}
use Rattle.rb_insn.specs.declared.insn.Insn.{Insn}
use Rattle.rb_insn.specs.declared.insn.Insn.TheVariants.{LoadRing}
use Rattle.rb_insn.specs.declared.insn.Width.TheVariants.{W64}
use Rattle.rb_explain.specs.declared.parts.Register.{Register}
use Rattle.rb_explain.specs.Assembly.{assembly_of}
use Rattle.rb_explain.specs.AssemblyParts.{register_text, ring_text}
use Rattle.rb_explain.proofs.forms.write_load.Goals as goal

-- the text of a ring load, in the order in which it is written
ring_loaded : (insn : Insn) (dst : Reg) (number : ℕ) (shown : Register) → insn ≡ LoadRing dst number → shown ≡ record { width = W64; reg = dst }
    → register_text shown.width shown.reg ++ (codes " = " ++ ring_text number) ≡ assembly_of insn
ring_loaded insn dst number shown is shows =
    ap (λ r. register_text r.width r.reg ++ (codes " = " ++ ring_text number)) shows
    ∙ sym (append_assoc (register_text W64 dst) (codes " = ") (ring_text number)) ∙ ap assembly_of (sym is)

pub returns-in-LoadRing : goal.returns-in-LoadRing
returns-in-LoadRing g c = record {
  writes = λ plain ok. has_written_of_eq _ _ _ _ _ (ring_loaded _ c.in-LoadRing.dst c.in-LoadRing.ring _ (search rules) c.whole-in-LoadRing.ensures) (c.write-in-LoadRing.ensures.writes plain ok);
}
