-- `text::Told::kinds` meets its contract. Assumes nothing.
use borrow.Author.Rules.{rules}
use Rattle.explaining.proofs.StartLaws.{Room, room}
use Rattle.explaining.proofs.text.Told.kinds.Goals as goal
use Rattle.explaining.proofs.text.Told.kinds.Goals.{Start}

room_at : (s : Start) → Room s.args.self.now.lines.now s.args.self.now.starts s.args.rule s.args.head
room_at s = room s.requires.0.found s.requires.1

pub offset_bounds-self-rule : goal.offset_bounds-self-rule
offset_bounds-self-rule c = let r = room_at (c) in search rules

pub bounds-self-rule : goal.bounds-self-rule
bounds-self-rule c = let r = room_at (goal.at.bounds-self-rule c).Start in search rules

pub overflow_mul-result : goal.overflow_mul-result
overflow_mul-result c = let r = room_at (goal.at.overflow_mul-result c).Start in search rules

pub overflow_add-result : goal.overflow_add-result
overflow_add-result c = let r = room_at (goal.at.overflow_add-result c).Start in search rules

pub offset_bounds-self-start : goal.offset_bounds-self-start
offset_bounds-self-start c = let r = room_at (goal.at.offset_bounds-self-start c).Start in search rules

pub bounds-self-start : goal.bounds-self-start
bounds-self-start c = let r = room_at (goal.at.bounds-self-start c).Start in search rules

pub overflow_add-result-2 : goal.overflow_add-result-2
overflow_add-result-2 c = let r = room_at (goal.at.overflow_add-result-2 c).Start in search rules

pub overflow_mul-result-2 : goal.overflow_mul-result-2
overflow_mul-result-2 c = let r = room_at (goal.at.overflow_mul-result-2 c).Start in search rules

pub overflow_add-result-3 : goal.overflow_add-result-3
overflow_add-result-3 c = let r = room_at (goal.at.overflow_add-result-3 c).Start in search rules

pub offset_bounds-self-start-2 : goal.offset_bounds-self-start-2
offset_bounds-self-start-2 c = let r = room_at (goal.at.offset_bounds-self-start-2 c).Start in search rules

pub bounds-self-start-2 : goal.bounds-self-start-2
bounds-self-start-2 c = let r = room_at (goal.at.bounds-self-start-2 c).Start in search rules

pub returns : goal.returns
returns c = c.requires.0.found.kinds c.args.rule c.args.head c.requires.1
