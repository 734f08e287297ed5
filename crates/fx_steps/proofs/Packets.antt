-- A complete run of one packet, from the way in which it comes to a fate.
use Rattle.std.proofs.Common.{◌≡◌, ◌≢◌, ℕ, zero, suc, ◌+◌, ◌^◌, ◌<◌, ◌≤◌, Bool, true, false, not, cond, List, [], ◌∷◌, ◌++◌, length, length-append, append_assoc, append-nil, Some, None, Ok, refl, sym, ap, ap₂, ◌∙◌, arith, slice_get, eq-eqb}
use Rattle.fx_base.specs.declared.counts.Counts.{Counts}
use Rattle.fx_layout.specs.Keys.{Key, key_of}
use Rattle.fx_tables.specs.declared.packet.Packet.{Packet}
use Rattle.fx_run_text.specs.declared.step.Step.{Step}
use Rattle.fx_run_text.specs.declared.step.Step.TheVariants.{Cross}
use Rattle.fx_tables.specs.declared.traffic.Crossing.{Crossing}
use Rattle.fx_tables.specs.Network.{Net}
use Rattle.fx_base.specs.Entries.{entry_numbered}
use Rattle.fx_tables.specs.Classes.{Class, path, exempts, to_count}
use Rattle.fx_machine.specs.Claim.{CountsEachOnce}
use Rattle.fx_tables.specs.Occurrences.{occurrences}
use Rattle.fx_machine.specs.States.{State, Coming, crossings_from, nothing_at, opening, all_empty}
use Rattle.fx_machine.specs.Acts.{Choices, Outcome, all_acts}
use Rattle.fx_machine.specs.Steps.{run, then_run, after, after_cross, later, place, crossing_acts, one_packet}
use Rattle.fx_machine.specs.Sums.{total_at, one_more, plain_sum}
use Rattle.fx_tables.specs.Ranks.{IsNetwork}
use Rattle.fx_leaf.specs.declared.verdict.Fate.{Fate}
use Rattle.fx_leaf.specs.Fates.{both, wanted_fate}
use Rattle.fx_leaf.specs.Laws.{IsSized}
use Rattle.fx_machine.proofs.Lists.{length_nothing}
use Rattle.fx_leaf.proofs.Totals.{same_key_refl}
use Rattle.fx_steps.specs.Playing.{totals_with, fate_of, RunOf}
use Rattle.fx_steps.specs.Ways.{PacketComes}
use Rattle.fx_steps.specs.Ways.PacketComes.{no_crossing, cross}
use Rattle.fx_steps.proofs.Places.{next_here}
use Rattle.fx_steps.proofs.ChainsOfActs.{chained}
use Rattle.fx_steps.proofs.RunsOfPackets
use Rattle.fx_machine.proofs.TallyCounts.{count_meets}
use Rattle.fx_steps.proofs.Tallies.{fates_both, total_of_times}

nothing_empty : {A : Type 0} (xs : List A) → all_empty (nothing_at xs) ≡ true
nothing_empty [] = refl
nothing_empty (x ∷ xs) = nothing_empty xs

module _ (net : Net) (classes : List Class) (p : Packet) (network : IsNetwork net) where
  abbrev counted : ℕ → ℕ → State → State
  counted t u s = RunsOfPackets.counted net classes p network t u s

  abbrev own_key : Key
  own_key = key_of net.report_layout p.fields

  abbrev goes : List Step → State → Outcome
  goes steps s = run net classes (p ∷ []) steps s

  -- the next crossing is made
  pub crosses : (s : State) (rest : List Coming) (number : ℕ) (choices : Choices)
      → after net classes (p ∷ []) (Cross 1 number choices)
      (record s { coming = record { packet = 1; crossing = number } ∷ rest })
      ≡ all_acts net (one_packet p) (crossing_acts net p.fields (entry_numbered (path classes p) number))
      (record s { coming = rest }) choices
  crosses s rest number choices =
      ap (λ b. after_cross net classes (Some p) (cond b (Some 0) (later (place rest 1 number))) number
      (record s { coming = record { packet = 1; crossing = number } ∷ rest }) choices) (eq-eqb number number refl)

  -- all crossings of a path from this state on
  record PathPlayed (f : Fate) (n : ℕ) (s : State) : Type 0 where
    steps : List Step
    tallies : ℕ
    lost : ℕ
    ends : goes steps s ≡ Ok (counted tallies lost (record s { coming = [] }))
    number : length steps ≡ n
    fate_is : fate_of tallies lost ≡ f
    few : tallies ≤ n

  cross_played : (c : Crossing) (cs : List Crossing) (f g : Fate) (m n : ℕ) (before : List Crossing) (s : State)
      → path classes p ≡ before ++ c ∷ cs → IsSized net s → s.coming ≡ crossings_from 1 (suc (length before)) (c ∷ cs)
      → ((s : State) → IsSized net s → RunsOfPackets.Played net classes p network (crossing_acts net p.fields (Some c))
      f m s) → ((s : State) → IsSized net s → s.coming ≡ crossings_from 1 (suc (suc (length before))) cs
      → PathPlayed g n s) → PathPlayed (both f g) (suc m + n) s
  cross_played c cs f g m n before s at z coming inner rest =
      let others = crossings_from 1 (suc (suc (length before))) cs in
      let s0 : State = record s { coming = others } in
      let i = inner s0 (record { held = z.held; carried = z.carried }) in
      let r = rest (counted i.tallies i.lost s0) (record { held = z.held; carried = z.carried }) refl in
      let number = suc (length before) in
      let here : entry_numbered (path classes p) number ≡ Some c = ap (λ xs. slice_get xs (length before)) at
      ∙ next_here before c cs in
      let one = Cross 1 number i.choices in
      let begins : after net classes (p ∷ []) one s ≡ Ok i.mid =
      ap (λ xs. after net classes (p ∷ []) one (record s { coming = xs })) coming
      ∙ crosses s others number i.choices ∙ ap (λ o. all_acts net (one_packet p) (crossing_acts net p.fields o) s0
      i.choices) here ∙ i.made in
      let end = RunsOfPackets.run_both net classes p network i.steps r.steps i.mid (counted i.tallies i.lost s0)
      (counted r.tallies r.lost (counted i.tallies i.lost (record s { coming = [] }))) i.ends r.ends in
      record {
        steps = one ∷ (i.steps ++ r.steps);
        tallies = i.tallies + r.tallies;
        lost = i.lost + r.lost;
        ends = ap (λ o. then_run o (run net classes (p ∷ []) (i.steps ++ r.steps))) begins ∙ end
            ∙ ap Ok (RunsOfPackets.counted_on net classes p network i.tallies i.lost r.tallies r.lost
            (record s { coming = [] }));
        number = let e = length-append i.steps r.steps in let a = i.number in let b = r.number in omega arith;
        fate_is = fates_both i.tallies i.lost r.tallies r.lost ∙ ap₂ both i.fate_is r.fate_is;
        few = let a = i.few in let b = r.few in let e = count_meets net p.fields (occurrences net c p.fields) in
            omega arith;
      }

  path_played : {cs : List Crossing} {f : Fate} {n : ℕ} → PacketComes net p.fields cs f n → (before : List Crossing)
      → path classes p ≡ before ++ cs → (s : State) → IsSized net s → s.coming
      ≡ crossings_from 1 (suc (length before)) cs → PathPlayed f n s
  path_played no_crossing before at s z coming =
      let e : s.unassigned ≡ s.unassigned + 0 = omega arith in
      record {
        steps = [];
        tallies = 0;
        lost = 0;
        ends = ap (λ xs. Ok (record s { coming = xs })) coming
            ∙ ap (λ (n : ℕ). Ok (record s { coming = []; unassigned = n })) e;
        number = refl;
        fate_is = refl;
        few = omega arith;
      }
  path_played (cross c cs f g m n d e) before at s z coming =
      let next = before ++ c ∷ [] in
      let size : suc (length next) ≡ suc (suc (length before)) = let k = length-append before (c ∷ []) in omega arith in
      cross_played c cs f g m n before s at z coming
      (RunsOfPackets.play net classes p network (chained net d)
      (RunsOfPackets.met_own net classes p network (occurrences net c p.fields)))
      (λ s z k. path_played e next (at ∙ sym (append_assoc before (c ∷ []) cs)) s z
      (k ∙ ap (λ j. crossings_from 1 j cs) (sym size)))

  -- ---- totals

  plain : plain_sum net.report_layout own_key (p ∷ []) ≡ Some (one_more p.octets None)
  plain = ap (λ b. cond b (Some (one_more p.octets None)) None) (same_key_refl own_key)

  -- the packets that are to be counted, by whether the class is exempt
  abbrev counts_of : Bool → List Packet
  counts_of exempt = cond (not exempt) (p ∷ []) []

  tallied_once : (t : ℕ) → suc t < 2 ^ 64 → (c : Counts)
      × (total_at (totals_with (suc t) own_key (one_packet p) []) own_key ≡ Some c) × (c.packets ≡ 1 + t)
  tallied_once t few = let one = one_packet p in
      total_of_times t own_key one one refl (let e : 1 + t < 2 ^ 64 = omega arith in e)

  not_counted : (exempt : Bool) (t u : ℕ) → t < 2 ^ 64 → fate_of t u ≢ wanted_fate exempt → (last : State) → last.totals
      ≡ totals_with t own_key (one_packet p) [] → last.unassigned ≡ 0 + u → CountsEachOnce net (counts_of exempt) last
      → ⊥
  not_counted exempt t (suc u) few wrong last totals lost counts = let k = counts.assigned in absurd (omega arith)
  not_counted false zero zero few wrong last totals lost counts =
      let none : total_at last.totals own_key ≡ None = ap (λ ts. total_at ts own_key) totals in
      absurd (let bad : None ≡ Some (one_more p.octets None) = sym none ∙ counts.totals own_key ∙ plain in cc)
  not_counted true zero zero few wrong last totals lost counts = wrong refl
  not_counted true (suc t) zero few wrong last totals lost counts =
      let times = tallied_once t few in
      let some : total_at last.totals own_key ≡ Some times.0 = ap (λ ts. total_at ts own_key) totals ∙ times.1 in
      absurd (let bad : Some times.0 ≡ None = sym some ∙ counts.totals own_key in cc)
  not_counted false (suc zero) zero few wrong last totals lost counts = wrong refl
  not_counted false (suc (suc t)) zero few wrong last totals lost counts =
      let times = tallied_once (suc t) few in
      let some : total_at last.totals own_key ≡ Some times.0 = ap (λ ts. total_at ts own_key) totals ∙ times.1 in
      let both' : Some times.0 ≡ Some (one_more p.octets None) = sym some ∙ counts.totals own_key ∙ plain in
      let same : times.0 ≡ one_more p.octets None = cc in
      let packets : times.0.packets ≡ 1 = ap (λ (c : Counts). c.packets) same in
      let more = times.2 in
      absurd (omega arith)

  -- where another fate was wanted, the packet isn't counted as it should be
  pub is_wrong : (t u : ℕ) → t < 2 ^ 64 → (s : State) → s.totals ≡ [] → s.unassigned ≡ 0
      → fate_of t u ≢ wanted_fate (exempts (entry_numbered classes p.class))
      → CountsEachOnce net (to_count classes (p ∷ [])) (counted t u s) → ⊥
  is_wrong t u few s totals lost wrong =
      not_counted (exempts (entry_numbered classes p.class)) t u few wrong (counted t u s)
      (ap (totals_with t own_key (one_packet p)) totals) (ap (λ n. n + u) lost)

  -- ---- the law

  pub has_run : (f : Fate) (n : ℕ) → n < 2 ^ 64 → PacketComes net p.fields (path classes p) f n
      → RunOf net classes p f n
  has_run f n small d =
      let s = opening net classes (p ∷ []) in
      let all : s.coming ≡ crossings_from 1 1 (path classes p) = append-nil (crossings_from 1 1 (path classes p)) in
      let r = path_played d [] refl s (record { held = length_nothing net.holders; carried = length_nothing net.links })
      all in
      record {
        steps = r.steps;
        final = counted r.tallies r.lost (record s { coming = [] });
        runs = r.ends;
        complete = record {
          crossed = refl;
          nothing_held = nothing_empty net.holders;
          nothing_carried =
              nothing_empty net.links;
        };
        number_is = r.number;
        wrong = λ w. is_wrong r.tallies r.lost (let k = r.few in omega arith) (record s { coming = [] }) refl refl
            (λ e. w (sym r.fate_is ∙ e));
      }
