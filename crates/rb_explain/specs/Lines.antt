-- The line of an instruction: its unit, its bytes in hex, its assembly and, if it is a call, the name of the helper
-- (bpf-helpers(7)).
use Rattle.std.specs.Prelude.{ℕ, ◌^◌, ◌-◌, List, ◌++◌, codes, Option, Some, None}
use Rattle.std.specs.Fmt.{format_spec, styled_decimal, styled_text}
use Rattle.hex.specs.Hex.{encode_lower}
use Rattle.rb_insn.specs.declared.insn.Insn.{Insn}
use Rattle.rb_insn.specs.declared.insn.Insn.TheVariants.{Call}
use Rattle.rb_insn.specs.Spelling.{spelling}
use Rattle.rb_verifier.specs.declared.helper.Helper.{Helper}
use Rattle.rb_verifier.specs.declared.helper.Helper.TheVariants.{Output, Reserve, Submit, Discard, Query}
use Rattle.rb_verifier.specs.HelperChecks.{helper_of}
use Rattle.rb_explain.specs.Assembly.{assembly_of}

abbrev pub helper_name : Helper → List ℕ
helper_name Output = codes "bpf_ringbuf_output"
helper_name Reserve = codes "bpf_ringbuf_reserve"
helper_name Submit = codes "bpf_ringbuf_submit"
helper_name Discard = codes "bpf_ringbuf_discard"
helper_name Query = codes "bpf_ringbuf_query"

abbrev pub helper_text : Option Helper → List ℕ
helper_text None = codes "  # not a helper of this host"
helper_text (Some helper) = codes "  # " ++ helper_name helper

-- the name of the helper after a call, and nothing after any other instruction
abbrev pub call_text : Insn → List ℕ
call_text (Call helper) = helper_text (helper_of helper)
call_text insn = codes ""

-- a unit, right-aligned in four columns
abbrev pub unit_text : ℕ → List ℕ
unit_text unit = styled_decimal (format_spec 32 3 0 4 (2 ^ 64 - 1)) unit

-- bytes in hex, left-aligned in 32 columns
abbrev pub bytes_column : List ℕ → List ℕ
bytes_column bytes = styled_text (format_spec 32 1 0 32 (2 ^ 64 - 1)) (encode_lower bytes)

abbrev pub line_text : ℕ → Insn → List ℕ
line_text unit insn =
    unit_text unit ++ codes ": " ++ bytes_column (spelling insn) ++ codes "  " ++ assembly_of insn ++ call_text insn ++ codes "\n"
