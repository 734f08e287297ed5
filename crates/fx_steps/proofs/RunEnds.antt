-- How a run of a packet begins and ends.
use Rattle.std.proofs.Common.{◌≡◌, ◌≢◌, ◌≤◌, ℕ, zero, suc, ◌+◌, ◌<◌, List, [], ◌∷◌, length, drop, get_or, append-nil, Ok, refl, sym, ap, ◌∙◌, subst, arith, add-one, le_of_suc-le-suc}
use Rattle.fx_tables.specs.declared.packet.Packet.{Packet}
use Rattle.fx_run_text.specs.declared.step.Step.{Step}
use Rattle.fx_machine.specs.Claim.{CountsEachOnce}
use Rattle.fx_tables.specs.Classes.{Class, path, exempts, to_count}
use Rattle.fx_tables.specs.Network.{Net}
use Rattle.fx_base.specs.Entries.{entry_numbered}
use Rattle.fx_tables.specs.Ranks.{IsNetwork}
use Rattle.fx_machine.specs.States.{crossings_from}
use Rattle.fx_machine.proofs.Lists.{nothing_empty}
use Rattle.fx_leaf.specs.declared.verdict.Fate.{Fate}
use Rattle.fx_leaf.specs.declared.verdict.Fate.TheVariants.{Never}
use Rattle.fx_leaf.specs.Fates.{wanted_fate}
use Rattle.fx_leaf.specs.Tables.{Numbering}
use Rattle.fx_leaf.proofs.Verdicts.{both_never}
use Rattle.fx_machine.specs.Limits.{step_limit}
use Rattle.fx_steps.specs.Playing.{fate_of}
use Rattle.fx_steps.specs.UnderWay.{state_of_tallies, UnderWay}
use Rattle.fx_steps.specs.WrongRun.{IsWrongRun}
use Rattle.fx_steps.proofs.Packets

pub drop_next : {A : Type 0} (k : ℕ) (xs : List A) (d : A) → k < length xs → drop k xs ≡ get_or xs k d ∷ drop (k + 1) xs
drop_next {A = A} k xs d lt = go k xs lt ∙ ap (λ m. get_or xs k d ∷ drop m xs) (sym (add-one k))
  where
    go : (i : ℕ) (ys : List A) → i < length ys → drop i ys ≡ get_or ys i d ∷ drop (suc i) ys
    go i [] l = absurd (omega arith)
    go zero (y ∷ ys) l = refl
    go (suc i) (y ∷ ys) l = go i ys (le_of_suc-le-suc l)

module _ (net : Net) (n : Numbering) (classes : List Class) (p : Packet) where
  pub begins : UnderWay net n classes p (crossings_from 1 1 (path classes p)) Never [] []
  begins = record {
    tallies = 0;
    unassigned = 0;
    runs = ap (λ coming. Ok (state_of_tallies net p 0 0 coming)) (append-nil (crossings_from 1 1 (path classes p)));
    joint = refl;
    few = omega arith;
  }

  -- where all is done and another fate was wanted, the run is wrong
  pub ends_wrong : IsNetwork net → (f : Fate) (steps : List Step) → length steps ≤ step_limit
      → f ≢ wanted_fate (exempts (entry_numbered classes p.class)) → UnderWay net n classes p [] f steps []
      → IsWrongRun net classes p steps
  ends_wrong network f steps few wrong way =
      let more : way.unassigned ≡ 0 + way.unassigned = omega arith in
      let last = state_of_tallies net p way.tallies way.unassigned [] in
      record {
        last = state_of_tallies net p way.tallies way.unassigned [];
        runs = way.runs;
        complete = record {
          crossed = refl;
          nothing_held = nothing_empty net.holders;
          nothing_carried =
              nothing_empty net.links;
        };
        wrong = λ counts. Packets.is_wrong net classes p network way.tallies way.unassigned
            (let k = way.few in omega arith) (state_of_tallies net p 0 0 []) refl refl
            (λ e. wrong (sym way.joint ∙ both_never (fate_of way.tallies way.unassigned) ∙ e))
            (subst (λ m. CountsEachOnce net (to_count classes (p ∷ [])) (record last { unassigned = m })) more counts);
        few = few;
      }
