use Rattle.std.proofs.Common.{map}
use Rattle.std.specs.Prelude.{codes}
use Rattle.rb_chapter_ring.specs.UntakenRecords.{untaken_shown}
use Rattle.rb_script.specs.Drawings.{objects}
use Rattle.rb_script.proofs.TextPieces.{three_pieces}
use Rattle.rb_script.proofs.drawings.push_list.Goals as goal

pub returns : goal.returns
returns c = record {
  list = three_pieces c.extend_from_slice-2.result c.args.text.now.items c.extend_from_slice.new.self.items c.push_objects.new.text.items c.extend_from_slice-2.new.self.items (codes ",\"records\":[") (objects (map untaken_shown c.args.records.now))
      (codes "]") c.in_ok-extend_from_slice.ensures.items c.in_ok-push_objects.ensures.objects c.extend_from_slice-2.ensures.items;
}
