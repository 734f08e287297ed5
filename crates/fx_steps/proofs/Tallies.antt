-- What is tallied again and again.
use Rattle.std.proofs.Common.{◌≡◌, ℕ, zero, suc, ◌+◌, ◌^◌, ◌<◌, cond, List, [], ◌∷◌, Some, None, refl, ap, ap₂, ◌∙◌, sym, subst, arith, mod-eq_of_lt}
use Rattle.fx_base.specs.declared.counts.Counts.{Counts}
use Rattle.fx_base.specs.Counts.{add_counts}
use Rattle.fx_layout.specs.Keys.{Key}
use Rattle.fx_tables.specs.declared.record.Record.{Record}
use Rattle.fx_machine.specs.States.{add_at}
use Rattle.fx_machine.specs.Sums.{total_at}
use Rattle.fx_leaf.specs.declared.verdict.Fate.{Fate}
use Rattle.fx_leaf.specs.declared.verdict.Fate.TheVariants.{Never, Once, Many, Differing, Unassigned}
use Rattle.fx_leaf.specs.Fates.{both}
use Rattle.fx_leaf.proofs.Totals.{same_key_refl}
use Rattle.fx_leaf.proofs.Verdicts.{never_both}
use Rattle.fx_steps.specs.Playing.{totals_with, fate_of}

pub times_on : (a b : ℕ) (key : Key) (counts : Counts) (ts : List Record)
    → totals_with b key counts (totals_with a key counts ts) ≡ totals_with (a + b) key counts ts
times_on zero b key counts ts = let e : b ≡ 0 + b = omega arith in ap (λ n. totals_with n key counts ts) e
times_on (suc a) b key counts ts =
    let e : suc (a + b) ≡ suc a + b = omega arith in
    times_on a b key counts (add_at ts key counts) ∙ ap (λ n. totals_with n key counts ts) e

-- ---- fates

pub fate_once : (t u : ℕ) → fate_of (suc t) u ≡ both Once (fate_of t u)
fate_once t (suc u) = refl
fate_once zero zero = refl
fate_once (suc zero) zero = refl
fate_once (suc (suc t)) zero = refl

fate_unassigned : (f : Fate) → both f Unassigned ≡ Unassigned
fate_unassigned Never = refl
fate_unassigned Once = refl
fate_unassigned Many = refl
fate_unassigned Differing = refl
fate_unassigned Unassigned = refl

pub fates_both : (t u v w : ℕ) → fate_of (t + v) (u + w) ≡ both (fate_of t u) (fate_of v w)
fates_both zero zero v w =
    let e : 0 + v ≡ v = omega arith in
    let d : 0 + w ≡ w = omega arith in
    ap₂ fate_of e d ∙ sym (never_both (fate_of v w))
fates_both t (suc u) v w = ap (fate_of (t + v)) (let e : suc u + w ≡ suc (u + w) = omega arith in e)
fates_both (suc zero) zero v w =
    let e : 1 + v ≡ suc v = omega arith in
    let d : 0 + w ≡ w = omega arith in
    ap₂ fate_of e d ∙ fate_once v w
fates_both (suc (suc t)) zero v (suc w) =
    let d : 0 + suc w ≡ suc w = omega arith in
    ap (fate_of (suc (suc t) + v)) d
fates_both (suc (suc t)) zero zero zero =
    ap (λ n. fate_of n 0) (let e : suc (suc t) + 0 ≡ suc (suc t) = omega arith in e)
fates_both (suc (suc t)) zero (suc zero) zero =
    ap (λ n. fate_of n 0) (let e : suc (suc t) + 1 ≡ suc (suc (suc t)) = omega arith in e)
fates_both (suc (suc t)) zero (suc (suc v)) zero =
    ap (λ n. fate_of n 0) (let e : suc (suc t) + suc (suc v) ≡ suc (suc (suc (suc (t + v)))) = omega arith in e)

-- ---- totals

-- at a key that stands alone the packets add up, while they are below 2 to the 64
pub total_of_times : (t : ℕ) (key : Key) (counts : Counts) (old : Counts) → counts.packets ≡ 1 → old.packets + t
    < 2 ^ 64 → (c : Counts) × (total_at (totals_with t key counts (record { key = key; counts = old } ∷ [])) key
    ≡ Some c) × (c.packets ≡ old.packets + t)
total_of_times zero key counts old one lt =
    (old, ap (λ b. cond b (Some old) None) (same_key_refl key), omega arith)
total_of_times (suc t) key counts old one lt =
    let next = add_counts old counts in
    let small : next.packets ≡ old.packets + counts.packets =
    mod-eq_of_lt (let k : old.packets + counts.packets < 2 ^ 64 = omega arith in k) in
    let rest = total_of_times t key counts next one (omega arith) in
    let added : add_at (record { key = key; counts = old } ∷ []) key counts ≡ record { key = key; counts = next } ∷ [] =
    ap (λ b. cond b (record { key = key; counts = next } ∷ [])
    (record { key = key; counts = old } ∷ add_at [] key counts)) (same_key_refl key) in
    (rest.0, subst (λ ts. total_at (totals_with t key counts ts) key ≡ Some rest.0) (sym added) rest.1, omega arith)
