use Rattle.std.proofs.Common.{Some, sym, subst, rules}
use Rattle.std.proofs.lemmas.Int.{to_z-of_z}
use mir.Syntax.{w32}
use mir.Val.{SFits}
use Rattle.rb_insn.specs.declared.insn.Size.TheVariants as size
use Rattle.rb_verifier.specs.Operations.{IsFormOf, IsStackStoreOf, IsRecordStoreOf}
use Rattle.rb_interp.proofs.cpu.Cpu.advance.Goals as goal

pub load_stack-requires-clause-form : goal.load_stack-requires-clause-form
load_stack-requires-clause-form g c = subst (λ o. IsFormOf o c.args._known.now (Some c.args._insn.now)) c.in-LoadStackByte.is c.requires.form

pub load_stack-requires-in-LoadStackHalf-clause-form : goal.load_stack-requires-in-LoadStackHalf-clause-form
load_stack-requires-in-LoadStackHalf-clause-form g c = subst (λ o. IsFormOf o c.args._known.now (Some c.args._insn.now)) c.in-LoadStackHalf.is c.requires.form

pub load_stack-requires-in-LoadStackWord-clause-form : goal.load_stack-requires-in-LoadStackWord-clause-form
load_stack-requires-in-LoadStackWord-clause-form g c = subst (λ o. IsFormOf o c.args._known.now (Some c.args._insn.now)) c.in-LoadStackWord.is c.requires.form

pub load_stack-requires-in-LoadStackDouble-clause-form : goal.load_stack-requires-in-LoadStackDouble-clause-form
load_stack-requires-in-LoadStackDouble-clause-form g c = subst (λ o. IsFormOf o c.args._known.now (Some c.args._insn.now)) c.in-LoadStackDouble.is c.requires.form

pub store_stack-requires-clause-form : goal.store_stack-requires-clause-form
store_stack-requires-clause-form g c = subst (λ o. IsFormOf o c.args._known.now (Some c.args._insn.now)) c.in-StoreStackByte.is c.requires.form

pub store_stack-requires-in-StoreStackHalf-clause-form : goal.store_stack-requires-in-StoreStackHalf-clause-form
store_stack-requires-in-StoreStackHalf-clause-form g c = subst (λ o. IsFormOf o c.args._known.now (Some c.args._insn.now)) c.in-StoreStackHalf.is c.requires.form

pub store_stack-requires-in-StoreStackWord-clause-form : goal.store_stack-requires-in-StoreStackWord-clause-form
store_stack-requires-in-StoreStackWord-clause-form g c = subst (λ o. IsFormOf o c.args._known.now (Some c.args._insn.now)) c.in-StoreStackWord.is c.requires.form

pub store_stack-requires-in-StoreStackDouble-clause-form : goal.store_stack-requires-in-StoreStackDouble-clause-form
store_stack-requires-in-StoreStackDouble-clause-form g c = subst (λ o. IsFormOf o c.args._known.now (Some c.args._insn.now)) c.in-StoreStackDouble.is c.requires.form

pub store_stack_immediate-requires-clause-form : goal.store_stack_immediate-requires-clause-form
store_stack_immediate-requires-clause-form g c =
    let h = c.in-StoreStackByteImmediate in
    let fits : SFits w32 h.k = search rules in
    subst (IsStackStoreOf c.args._known.now (Some c.args._insn.now) size.Byte h.at) (sym (to_z-of_z w32 h.k fits)) (subst (λ o. IsFormOf o c.args._known.now (Some c.args._insn.now)) h.is c.requires.form)

pub store_stack_immediate-requires-in-StoreStackHalfImmediate-clause-form : goal.store_stack_immediate-requires-in-StoreStackHalfImmediate-clause-form
store_stack_immediate-requires-in-StoreStackHalfImmediate-clause-form g c =
    let h = c.in-StoreStackHalfImmediate in
    let fits : SFits w32 h.k = search rules in
    subst (IsStackStoreOf c.args._known.now (Some c.args._insn.now) size.Half h.at) (sym (to_z-of_z w32 h.k fits)) (subst (λ o. IsFormOf o c.args._known.now (Some c.args._insn.now)) h.is c.requires.form)

pub store_stack_immediate-requires-in-StoreStackWordImmediate-clause-form : goal.store_stack_immediate-requires-in-StoreStackWordImmediate-clause-form
store_stack_immediate-requires-in-StoreStackWordImmediate-clause-form g c =
    let h = c.in-StoreStackWordImmediate in
    let fits : SFits w32 h.k = search rules in
    subst (IsStackStoreOf c.args._known.now (Some c.args._insn.now) size.Word h.at) (sym (to_z-of_z w32 h.k fits)) (subst (λ o. IsFormOf o c.args._known.now (Some c.args._insn.now)) h.is c.requires.form)

pub store_stack_immediate-requires-in-StoreStackDoubleImmediate-clause-form : goal.store_stack_immediate-requires-in-StoreStackDoubleImmediate-clause-form
store_stack_immediate-requires-in-StoreStackDoubleImmediate-clause-form g c =
    let h = c.in-StoreStackDoubleImmediate in
    let fits : SFits w32 h.k = search rules in
    subst (IsStackStoreOf c.args._known.now (Some c.args._insn.now) size.Double h.at) (sym (to_z-of_z w32 h.k fits)) (subst (λ o. IsFormOf o c.args._known.now (Some c.args._insn.now)) h.is c.requires.form)

pub load_context-requires-clause-form : goal.load_context-requires-clause-form
load_context-requires-clause-form g c = subst (λ o. IsFormOf o c.args._known.now (Some c.args._insn.now)) c.in-LoadContextByte.is c.requires.form

pub load_context-requires-in-LoadContextHalf-clause-form : goal.load_context-requires-in-LoadContextHalf-clause-form
load_context-requires-in-LoadContextHalf-clause-form g c = subst (λ o. IsFormOf o c.args._known.now (Some c.args._insn.now)) c.in-LoadContextHalf.is c.requires.form

pub load_context-requires-in-LoadContextWord-clause-form : goal.load_context-requires-in-LoadContextWord-clause-form
load_context-requires-in-LoadContextWord-clause-form g c = subst (λ o. IsFormOf o c.args._known.now (Some c.args._insn.now)) c.in-LoadContextWord.is c.requires.form

pub load_context-requires-in-LoadContextDouble-clause-form : goal.load_context-requires-in-LoadContextDouble-clause-form
load_context-requires-in-LoadContextDouble-clause-form g c = subst (λ o. IsFormOf o c.args._known.now (Some c.args._insn.now)) c.in-LoadContextDouble.is c.requires.form

pub load_record-requires-clause-form : goal.load_record-requires-clause-form
load_record-requires-clause-form g c = subst (λ o. IsFormOf o c.args._known.now (Some c.args._insn.now)) c.in-LoadRecordByte.is c.requires.form

pub load_record-requires-in-LoadRecordHalf-clause-form : goal.load_record-requires-in-LoadRecordHalf-clause-form
load_record-requires-in-LoadRecordHalf-clause-form g c = subst (λ o. IsFormOf o c.args._known.now (Some c.args._insn.now)) c.in-LoadRecordHalf.is c.requires.form

pub load_record-requires-in-LoadRecordWord-clause-form : goal.load_record-requires-in-LoadRecordWord-clause-form
load_record-requires-in-LoadRecordWord-clause-form g c = subst (λ o. IsFormOf o c.args._known.now (Some c.args._insn.now)) c.in-LoadRecordWord.is c.requires.form

pub load_record-requires-in-LoadRecordDouble-clause-form : goal.load_record-requires-in-LoadRecordDouble-clause-form
load_record-requires-in-LoadRecordDouble-clause-form g c = subst (λ o. IsFormOf o c.args._known.now (Some c.args._insn.now)) c.in-LoadRecordDouble.is c.requires.form

pub store_record-requires-clause-form : goal.store_record-requires-clause-form
store_record-requires-clause-form g c = subst (λ o. IsFormOf o c.args._known.now (Some c.args._insn.now)) c.in-StoreRecordByte.is c.requires.form

pub store_record-requires-in-StoreRecordHalf-clause-form : goal.store_record-requires-in-StoreRecordHalf-clause-form
store_record-requires-in-StoreRecordHalf-clause-form g c = subst (λ o. IsFormOf o c.args._known.now (Some c.args._insn.now)) c.in-StoreRecordHalf.is c.requires.form

pub store_record-requires-in-StoreRecordWord-clause-form : goal.store_record-requires-in-StoreRecordWord-clause-form
store_record-requires-in-StoreRecordWord-clause-form g c = subst (λ o. IsFormOf o c.args._known.now (Some c.args._insn.now)) c.in-StoreRecordWord.is c.requires.form

pub store_record-requires-in-StoreRecordDouble-clause-form : goal.store_record-requires-in-StoreRecordDouble-clause-form
store_record-requires-in-StoreRecordDouble-clause-form g c = subst (λ o. IsFormOf o c.args._known.now (Some c.args._insn.now)) c.in-StoreRecordDouble.is c.requires.form

pub store_record_immediate-requires-clause-form : goal.store_record_immediate-requires-clause-form
store_record_immediate-requires-clause-form g c =
    let h = c.in-StoreRecordByteImmediate in
    let fits : SFits w32 h.k = search rules in
    subst (IsRecordStoreOf c.args._known.now (Some c.args._insn.now) size.Byte h.id h.at) (sym (to_z-of_z w32 h.k fits)) (subst (λ o. IsFormOf o c.args._known.now (Some c.args._insn.now)) h.is c.requires.form)

pub store_record_immediate-requires-in-StoreRecordHalfImmediate-clause-form : goal.store_record_immediate-requires-in-StoreRecordHalfImmediate-clause-form
store_record_immediate-requires-in-StoreRecordHalfImmediate-clause-form g c =
    let h = c.in-StoreRecordHalfImmediate in
    let fits : SFits w32 h.k = search rules in
    subst (IsRecordStoreOf c.args._known.now (Some c.args._insn.now) size.Half h.id h.at) (sym (to_z-of_z w32 h.k fits)) (subst (λ o. IsFormOf o c.args._known.now (Some c.args._insn.now)) h.is c.requires.form)

pub store_record_immediate-requires-in-StoreRecordWordImmediate-clause-form : goal.store_record_immediate-requires-in-StoreRecordWordImmediate-clause-form
store_record_immediate-requires-in-StoreRecordWordImmediate-clause-form g c =
    let h = c.in-StoreRecordWordImmediate in
    let fits : SFits w32 h.k = search rules in
    subst (IsRecordStoreOf c.args._known.now (Some c.args._insn.now) size.Word h.id h.at) (sym (to_z-of_z w32 h.k fits)) (subst (λ o. IsFormOf o c.args._known.now (Some c.args._insn.now)) h.is c.requires.form)

pub store_record_immediate-requires-in-StoreRecordDoubleImmediate-clause-form : goal.store_record_immediate-requires-in-StoreRecordDoubleImmediate-clause-form
store_record_immediate-requires-in-StoreRecordDoubleImmediate-clause-form g c =
    let h = c.in-StoreRecordDoubleImmediate in
    let fits : SFits w32 h.k = search rules in
    subst (IsRecordStoreOf c.args._known.now (Some c.args._insn.now) size.Double h.id h.at) (sym (to_z-of_z w32 h.k fits)) (subst (λ o. IsFormOf o c.args._known.now (Some c.args._insn.now)) h.is c.requires.form)
