use Rattle.std.proofs.Common.{◌≡◌, ◌+◌, ◌-◌, ◌≤◌, length, refl, sym, ap, ◌∙◌, arith}
use Rattle.std.proofs.lemmas.Bool.{ltb-true}
use Rattle.std.specs.Io.KnownBytes.{prepend_known}
use Rattle.fx_base.proofs.Asked.{asked_then, asked_so_often}
use Rattle.fx_base.specs.Pieces.{Pieces}
use Rattle.fx_audit.proofs.Streams.{begun, piece_refused, read_further}
use Rattle.fx_checker.proofs.Documents.{exit_with}
use Rattle.fx_audit.proofs.collecting.tally_stream.Goals as goal

pub pieces-init : goal.pieces-init
pieces-init g c =
    let none : c.new-pieces.result.calls ≡ 0 = ap (λ (p : Pieces). p.calls) c.new-pieces.ensures in
    record {
      read = begun _ _ _ _ none c.requires;
      few = omega (arith, none);
      asked = asked_so_often _ _ 0 _ (sym none) refl;
    }

pub pieces-preserved : goal.pieces-preserved
pieces-preserved g c =
    let piece = c.piece.result.now in
    let left = g.R.Source.left c.advance.new.source in
    let reads = ap (λ l. prepend_known l left) c.piece.ensures ∙ c.advance.ensures.octets in
    let some : 1 ≤ length piece = omega (
      arith,
      ap length c.piece.ensures,
      ltb-true 0 (length c.advance.new.self.piece)
          (sym c.in_ok-advance.ensures.there ∙ c.if-branch.true),
    ) in
    let all : c.pieces.pieces.calls + (c.advance.new.self.calls - c.pieces.pieces.calls) ≡ c.advance.new.self.calls =
    omega (arith, c.advance.ensures.calls) in
    record {
      read = read_further _ _ _ _ _ _ _ _ _ _ piece c.pieces.invariant.read c.in_ok-advance.ensures.counted reads some
          c.in_ok-take_piece.ensures.session c.in_ok-take_piece.ensures.faultless c.in_ok-take_piece.ensures.totals;
      few = omega (arith, c.advance.ensures.calls);
      asked = asked_so_often _ _ _ _ all (asked_then _ _ _ _ _ c.pieces.invariant.asked c.advance.ensures.asked);
    }

pub returns-in_err-take_piece-clause-err : goal.returns-in_err-take_piece-clause-err
returns-in_err-take_piece-clause-err g c =
    let left = g.R.Source.left c.advance.new.source in
    let reads = ap (λ l. prepend_known l left) c.piece.ensures ∙ c.advance.ensures.octets in
    exit_with _ _ _ c.from_residual-in_err-take_piece.ensures
    (piece_refused (g.R.Source.left c.args.stream.now) _ _ _ _ _ _ c.piece.result.now c.in_err-take_piece.field-0.0
    _ _ c.pieces.invariant.read reads c.in_err-take_piece.ensures.err)
