use Rattle.std.proofs.Common.{◌≡◌, refl, ◌+◌, ◌-◌, List, ℕ, ap, sym, ◌∙◌, ◌++◌, length, arith, inl, inr}
use Rattle.std.proofs.lemmas.Bool.{ltb-true}
use Rattle.std.proofs.lemmas.List.{length-append}
use Rattle.std.proofs.lemmas.Result.{err_from_is_err_and}
use Rattle.std.specs.Io.KnownBytes.{prepend_known}
use Rattle.fx_base.proofs.Asked.{asked_so_often, asked_then}
use Rattle.fx_base.proofs.Held.{prepend_nil}
use Rattle.fx_base.proofs.Reading.{read_more}
use Rattle.fx_base.proofs.PieceByPiece.{stays_opaque, all_held, read_to_end, held_at_most}
use Rattle.fx_base.specs.Limits.{call_limit}
use Rattle.fx_base.specs.Pieces.{Pieces}
use Rattle.fx_base.proofs.whole.read_whole.Goals as goal

pub pieces-init : goal.pieces-init
pieces-init g c =
    let left = g.R.Source.left c.args.source.now in
    let calls : c.new-pieces.result.calls ≡ 0 = ap (λ (p : Pieces). p.calls) c.new-pieces.ensures in
    record {
      text = ap (λ held. prepend_known held left) c.new-octets.ensures.items ∙ prepend_nil left;
      count = omega (arith, calls);
      few = omega (arith, calls);
      asked = rw calls refl;
    }

pub returns-in_err-advance : goal.returns-in_err-advance
returns-in_err-advance g c =
    let p = err_from_is_err_and c.from_residual.result c.from_residual.ensures.1 in
    let left = g.R.Source.left in
    let made = g.R.Source.calls in
    let held = c.pieces.octets.items in
    let piece = c.advance.new.self.piece in
    record {
      all = rw p.1 tt;
      end = rw p.1 tt;
      opaque = stays_opaque held piece (left c.args.source.now) (left c.pieces.source) (left c.advance.new.source)
          c.pieces.invariant.text c.advance.ensures.octets;
      err = rw (p.1, p.2) (inr (
        c.in_err-advance.ensures.err.0,
        elim c.in_err-advance.ensures.err.2 [
          | inl failed ↦ inl failed
          | inr all ↦ inr (
            asked_so_often (made c.args.source.now) (made c.advance.new.source)
                (c.pieces.pieces.calls + (c.advance.new.self.calls - c.pieces.pieces.calls)) call_limit
                (omega (arith, all, c.advance.ensures.calls))
                (asked_then (made c.args.source.now) (made c.pieces.source) (made c.advance.new.source)
                c.pieces.pieces.calls (c.advance.new.self.calls - c.pieces.pieces.calls) c.pieces.invariant.asked
                c.advance.ensures.asked),
            held_at_most held piece (left c.args.source.now) (left c.pieces.source) (left c.advance.new.source)
                c.pieces.invariant.text c.advance.ensures.octets call_limit
                (omega (arith, all, c.pieces.invariant.count)),
          )
        ],
      ));
    }

pub returns-in_err-extend_from_slice : goal.returns-in_err-extend_from_slice
returns-in_err-extend_from_slice g c =
    let p = err_from_is_err_and c.from_residual-in_err-extend_from_slice.result
    c.from_residual-in_err-extend_from_slice.ensures.1 in
    let left = g.R.Source.left in
    record {
      all = rw p.1 tt;
      end = rw p.1 tt;
      opaque = stays_opaque c.pieces.octets.items c.advance.new.self.piece (left c.args.source.now)
          (left c.pieces.source) (left c.advance.new.source) c.pieces.invariant.text c.advance.ensures.octets;
      err = rw p.1 (inl p.2);
    }

pub pieces-preserved : goal.pieces-preserved
pieces-preserved g c =
    let left = g.R.Source.left in
    let made = g.R.Source.calls in
    let held = c.pieces.octets.items in
    let piece = c.advance.new.self.piece in
    let items = c.in_ok-extend_from_slice.ensures.items ∙ ap (λ (more : List ℕ). held ++ more) c.piece.ensures in
    let size = ap length items ∙ length-append held piece in
    let calls : c.pieces.pieces.calls + (c.advance.new.self.calls - c.pieces.pieces.calls) ≡ c.advance.new.self.calls =
    omega (arith, c.advance.ensures.calls) in
    record {
      text = ap (λ octets. prepend_known octets (left c.advance.new.source)) items
          ∙ read_more held piece (left c.pieces.source) (left c.advance.new.source) c.advance.ensures.octets
          ∙ c.pieces.invariant.text;
      count = omega (
        arith,
        size,
        ltb-true 0 (length piece) (sym c.in_ok-advance.ensures.there ∙ c.if-branch.true),
        c.in_ok-advance.ensures.counted,
        c.pieces.invariant.count,
      );
      few = c.advance.ensures.calls.1;
      asked = asked_so_often (made c.args.source.now) (made c.advance.new.source) _ c.advance.new.self.calls calls
          (asked_then (made c.args.source.now) (made c.pieces.source) (made c.advance.new.source) c.pieces.pieces.calls
          (c.advance.new.self.calls - c.pieces.pieces.calls) c.pieces.invariant.asked c.advance.ensures.asked);
    }

pub pieces-smaller : goal.pieces-smaller
pieces-smaller g c = omega (arith, c.in_ok-advance.ensures.counted, c.advance.ensures.calls)

pub returns : goal.returns
returns g c =
    let left = g.R.Source.left in
    let held = c.pieces.octets.items in
    let piece = c.advance.new.self.piece in
    let end = c.in_ok-advance.ensures.end c.if-branch.false in
    record {
      all = all_held held piece (left c.args.source.now) (left c.pieces.source) (left c.advance.new.source)
          c.pieces.invariant.text c.advance.ensures.octets end;
      end = read_to_end held piece (left c.args.source.now) (left c.pieces.source) (left c.advance.new.source)
          c.pieces.invariant.text c.advance.ensures.octets end;
      opaque = stays_opaque held piece (left c.args.source.now) (left c.pieces.source) (left c.advance.new.source)
          c.pieces.invariant.text c.advance.ensures.octets;
      err = tt;
    }
