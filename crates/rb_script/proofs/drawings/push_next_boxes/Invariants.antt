use Rattle.std.proofs.Common.{◌≡◌, ◌++◌, map, take}
use Rattle.std.specs.List.{flat_map}
use Rattle.rb_chapter_ring.specs.UntakenRecords.{untaken_shown}
use Rattle.rb_script.specs.Drawings.{next_box}
use Rattle.rb_script.proofs.drawings.push_next_boxes.Given as goal

abbrev pub invariant-loop-untaken : goal.invariant-loop-untaken
invariant-loop-untaken l = l.text.items ≡ l.fn.text.items ++ flat_map (next_box l.form) (map untaken_shown (take l.untaken-index l.records))
