-- The text of an object, from its pieces.
use Rattle.std.proofs.Common.{◌≡◌, ℕ, ◌++◌, List, [], ◌∷◌, Result, Ok, Err, refl, ap, ◌∙◌, append_assoc}
use Rattle.std.specs.Prelude.{OnOk, codes}
use Rattle.std.specs.Fmt.{decimal}
use Rattle.hex.specs.Hex.{encode_lower}
use Rattle.rb_insn.specs.declared.insn.Insn.{Insn}
use Rattle.rb_insn.specs.Spelling.{spelling}
use Rattle.rb_explain.specs.Assembly.{assembly_of}
use Rattle.rb_explain.specs.Objects.{fault_object, helper_field, insn_fields}

fault_pieces : (layer name unit advice : List ℕ)
    → codes "{\"layer\":\"" ++ (layer ++ (codes "\",\"fault\":\"" ++ (name ++ (codes "\",\"unit\":" ++ (unit ++ (codes ",\"advice\":\"" ++ (advice ++ codes "\"}\n")))))))
    ≡ codes "{\"layer\":\"" ++ layer ++ codes "\",\"fault\":\"" ++ name ++ codes "\",\"unit\":" ++ unit ++ codes ",\"advice\":\"" ++ advice ++ codes "\"}\n"
fault_pieces layer name unit advice = simp append_assoc refl

pub fault_written : {A B : Type 0} (answer : Result A B) (old new layer name : List ℕ) (unit : ℕ) (advice : List ℕ)
    → OnOk answer (new ≡ old ++ (codes "{\"layer\":\"" ++ (layer ++ (codes "\",\"fault\":\"" ++ (name ++ (codes "\",\"unit\":" ++ (decimal unit ++ (codes ",\"advice\":\"" ++ (advice ++ codes "\"}\n")))))))))
    → OnOk answer (new ≡ old ++ fault_object layer name unit advice)
fault_written (Ok a) old new layer name unit advice wrote = wrote ∙ ap (λ l. old ++ l) (fault_pieces layer name (decimal unit) advice)
fault_written (Err e) old new layer name unit advice wrote = tt

insn_pieces : (unit bytes assembly helper : List ℕ)
    → codes "{\"unit\":" ++ (unit ++ (codes ",\"bytes\":\"" ++ (bytes ++ (codes "\",\"assembly\":\"" ++ (assembly ++ (codes "\"" ++ helper))))))
    ≡ codes "{\"unit\":" ++ unit ++ codes ",\"bytes\":\"" ++ bytes ++ codes "\",\"assembly\":\"" ++ assembly ++ codes "\"" ++ helper
insn_pieces unit bytes assembly helper = simp append_assoc refl

pub insn_written : {A B : Type 0} (answer : Result A B) (old new : List ℕ) (unit : ℕ) (bytes : List ℕ) (insn : Insn) → bytes ≡ encode_lower (spelling insn)
    → OnOk answer (new ≡ old ++ (codes "{\"unit\":" ++ (decimal unit ++ (codes ",\"bytes\":\"" ++ (bytes ++ (codes "\",\"assembly\":\"" ++ (assembly_of insn ++ (codes "\"" ++ helper_field insn))))))))
    → OnOk answer (new ≡ old ++ insn_fields unit insn)
insn_written (Ok a) old new unit bytes insn spelled wrote =
    wrote ∙ ap (λ l. old ++ l) (insn_pieces (decimal unit) bytes (assembly_of insn) (helper_field insn))
    ∙ ap (λ b. old ++ (codes "{\"unit\":" ++ decimal unit ++ codes ",\"bytes\":\"" ++ b ++ codes "\",\"assembly\":\"" ++ assembly_of insn ++ codes "\"" ++ helper_field insn)) spelled
insn_written (Err e) old new unit bytes insn spelled wrote = tt
