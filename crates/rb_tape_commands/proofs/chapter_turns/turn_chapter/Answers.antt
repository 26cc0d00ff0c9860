use Rattle.rb_tape_commands.proofs.ChapterPass.{turn_gives_room}
use Rattle.rb_tape_commands.proofs.chapter_turns.turn_chapter.Goals as goal

pub returns-clause-room : goal.returns-clause-room
returns-clause-room c =
    let kept = c.facts.ensures.kept in
    turn_gives_room kept.0 c.args.ring.now.state.ring c.hand_out.new.self.state.ring c.in-Ok.full kept.1 c.requires.all_taken c.facts.ensures.bounded.chapter_room.0 c.in-Ok.ensures.handed_out
