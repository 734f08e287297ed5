use Rattle.std.proofs.Common.{ap, sym, arith, take, length, nat_lt}
use Rattle.std.proofs.lemmas.List.{length-take-le}
use Rattle.fx_base.proofs.PieceByPiece.{piece_held, no_piece, none_there}
use Rattle.fx_base.proofs.pieces.PieceReader.advance.Goals as goal

pub returns : goal.returns
returns g c =
    let left = g.R.Source.left in
    let n = c.in_ok-self-inside.field-0 in
    let piece = take n c.read_next.new.buffer in
    let size = length-take-le n c.read_next.new.buffer
    (omega (arith, c.in_ok-self-inside.ensures.count, c.read_next.auto.buffer)) in
    rw (← c.self.view_is) (record {
      octets = piece_held piece n (length c.self.inside.octets) (left c.args.source.now) (left c.read_next.new.source)
          c.in_ok-self-inside.ensures.octets;
      there = ap (nat_lt 0) (sym size);
      end = λ none. no_piece piece n (length c.self.inside.octets) (left c.args.source.now)
          (left c.read_next.new.source) c.in_ok-self-inside.ensures.octets (none_there n none)
          (omega (arith, c.self.told));
      short = omega (arith, size, c.in_ok-self-inside.ensures.count);
      counted = c.in_ok-self-inside.ensures.counted;
      calls = (c.read_next.ensures.calls.0, c.read_next.ensures.calls.1);
      asked = c.read_next.ensures.asked;
      err = tt;
    })
