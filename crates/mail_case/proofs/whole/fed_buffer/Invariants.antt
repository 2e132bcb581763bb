use Rattle.std.specs.Slice.Iter.{chunks_rest}
use Rattle.mail_case.proofs.Feeding.{IsFed}
use Rattle.mail_case.proofs.whole.fed_buffer.Given as goal

abbrev pub invariant-loop-piece : goal.invariant-loop-piece
invariant-loop-piece l = record {
  can : (goal.iterator-loop-piece).can_next l.piece-iterator;
  finite : (goal.iterator-loop-piece).is_finite l.piece-iterator;
  fed : IsFed l.fn.msg (chunks_rest l.piece-iterator) l.buffer;
}
