use Rattle.rb_insn.proofs.Laws.{spellings_fill_units, no_spelling_begins_another, one_list_spells}
use Rattle.rb_insn.proofs.spelling.spelling_laws.Goals as goal

pub returns-clause-fills_units : goal.returns-clause-fills_units
returns-clause-fills_units c = spellings_fill_units

pub returns-clause-prefix_free : goal.returns-clause-prefix_free
returns-clause-prefix_free c = no_spelling_begins_another

pub returns-clause-unique : goal.returns-clause-unique
returns-clause-unique c = one_list_spells
