-- The answer for a leaf is the leaf that is sound, or says why there is none.
use Rattle.std.proofs.Common.{◌≡◌, ℕ, List, Option, Some, None, Result, Ok, Err, refl, sym, ap, ◌∙◌, subst, IfOk, IfErr, OnOk}
use Rattle.fx_base.specs.declared.fault.Fault.{Fault}
use Rattle.fx_boxes.specs.Boxes.{Bounds, IsRegion}
use Rattle.fx_tables.specs.declared.traffic.Crossing.{Crossing}
use Rattle.fx_tables.specs.Network.{Net}
use Rattle.fx_tables.specs.Ranks.{IsNetwork}
use Rattle.fx_leaf.specs.declared.leaf.Counted.{Counted}
use Rattle.fx_leaf.specs.declared.verdict.Fate.{Fate}
use Rattle.fx_leaf.specs.declared.verdict.Fate.TheVariants.{Never, Once, Many, Differing, Unassigned}
use Rattle.fx_elements.specs.declared.axis.Axis.{Axis}
use Rattle.fx_leaf.specs.declared.path.PathFate.{PathFate}
use Rattle.fx_leaf.specs.Splits.{IsSplit}
use Rattle.fx_leaf.specs.Leaves.{IsPathFate, fault_of, numbers_of, leaf_of, NoneIsSound, never_of, NeverIsUnsound}
use Rattle.fx_leaf.specs.Leaves.NoneIsSound.{cut, unassigned, differing, many, never}
use Rattle.fx_leaf.specs.Leaves.NeverIsUnsound.{cut as is_cut, unassigned as is_unassigned, differing as is_differing, many as is_many, once as is_once}
use Rattle.fx_leaf.specs.SoundLeaves.{SoundLeaf, SoundNever}
use Rattle.fx_leaf.specs.Verdicts.{Verdict, SelectionVerdict, path_verdict, counter}
use Rattle.fx_leaf.proofs.PathSplits.{no_verdict}
use Rattle.fx_leaf.proofs.Answers.{none_is_cut, some_is_fate, once_is_sound, no_other_is_sound, never_is_sound, sound_is_never}

-- the counter matters only where packets are counted once
leaves_alike : (f : Fate) (a b : Option Counted) → (f ≡ Once → a ≡ b) → leaf_of (Some f) a ≡ leaf_of (Some f) b
leaves_alike Never a b same = refl
leaves_alike Once a b same = ap (leaf_of (Some Once)) (same refl)
leaves_alike Many a b same = refl
leaves_alike Differing a b same = refl
leaves_alike Unassigned a b same = refl

module _ (net : Net) (path : List Crossing) (region : Bounds) (is_net : IsNetwork net) (r : IsRegion region) where
  abbrev Sound : Counted → Type 0
  Sound c = SoundLeaf net path region c.crossing c.point c.process

  module _ {X : Type 0} (known : Result PathFate (Axis × ℕ)) (result : Result X Fault)
      (ok : IfOk known (IsPathFate net path region)) (err : IfErr known (λ s. IsSplit net path region s.0 s.1)) where
    -- what is answered of what is known is answered of the verdict
    answered : (answer : Verdict → Option Counted → Result X Fault)
        → ((c : Option Counted) → answer None c ≡ Err (fault_of None))
        → ((f : Fate) (a b : Option Counted) → (f ≡ Once → a ≡ b) → answer (Some f) a ≡ answer (Some f) b)
        → IfOk known (λ t. result ≡ answer (Some t.fate) t.counted) → IfErr known (λ s. result ≡ Err (fault_of None))
        → result ≡ answer (path_verdict net region path) (numbers_of (counter net region path))
    answered answer none alike is else_is = by known ok err is else_is where
      by : (q : Result PathFate (Axis × ℕ)) → IfOk q (IsPathFate net path region)
          → IfErr q (λ s. IsSplit net path region s.0 s.1) → IfOk q (λ t. result ≡ answer (Some t.fate) t.counted)
          → IfErr q (λ s. result ≡ Err (fault_of None)) → result
          ≡ answer (path_verdict net region path) (numbers_of (counter net region path))
      by (Ok t) k e i h = i ∙ alike t.fate t.counted (numbers_of (counter net region path)) k.counted
          ∙ ap (λ (v : Verdict). answer v (numbers_of (counter net region path))) k.verdict
      by (Err s) k e i h = h ∙ sym (none (numbers_of (counter net region path)))
          ∙ ap (λ (v : Verdict). answer v (numbers_of (counter net region path)))
          (sym (no_verdict net path region is_net r s e))

  pub leaf_is_answer : (known : Result PathFate (Axis × ℕ)) (result : Result Counted Fault)
      → IfOk known (IsPathFate net path region) → IfErr known (λ s. IsSplit net path region s.0 s.1)
      → IfOk known (λ t. result ≡ leaf_of (Some t.fate) t.counted) → IfErr known (λ s. result ≡ Err (fault_of None))
      → result ≡ leaf_of (path_verdict net region path) (numbers_of (counter net region path))
  leaf_is_answer known result ok err is else_is =
      answered known result ok err leaf_of (λ c. refl) leaves_alike is else_is

  pub never_is_answer : (known : Result PathFate (Axis × ℕ)) (result : Result (Unit {0}) Fault)
      → IfOk known (IsPathFate net path region) → IfErr known (λ s. IsSplit net path region s.0 s.1)
      → IfOk known (λ t. result ≡ never_of (Some t.fate)) → IfErr known (λ s. result ≡ Err (fault_of None)) → result
      ≡ never_of (path_verdict net region path)
  never_is_answer known result ok err is else_is =
      answered known result ok err (λ v c. never_of v) (λ c. refl) (λ f a b same. refl) is else_is

  said : (v : Verdict) → path_verdict net region path ≡ v
      → IfOk (leaf_of v (numbers_of (counter net region path))) Sound
  said None e = tt
  said (Some Never) e = tt
  said (Some Many) e = tt
  said (Some Differing) e = tt
  said (Some Unassigned) e = tt
  said (Some Once) e =
      let s = once_is_sound net path region is_net r e in
      subst (λ o. IfOk (leaf_of (Some Once) (numbers_of o)) Sound) (sym s.1) s.2

  pub answer_sound : (result : Result Counted Fault) → result
      ≡ leaf_of (path_verdict net region path) (numbers_of (counter net region path)) → IfOk result Sound
  answer_sound result e = subst (λ x. IfOk x Sound) (sym e) (said (path_verdict net region path) refl)

  pub answer_every : (result : Result Counted Fault) → result
      ≡ leaf_of (path_verdict net region path) (numbers_of (counter net region path)) → (crossing point process : ℕ)
      → SoundLeaf net path region crossing point process → result
      ≡ Ok (record { crossing = crossing; point = point; process = process })
  answer_every result e crossing point process leaf =
      let other = no_other_is_sound net path region is_net r crossing point process leaf in
      let s = once_is_sound net path region is_net r other.0 in
      let same = other.1 s.0 s.1 in
      let one : leaf_of (path_verdict net region path) (numbers_of (counter net region path))
      ≡ leaf_of (Some Once) (numbers_of (Some s.0)) =
      ap (λ v. leaf_of v (numbers_of (counter net region path))) other.0
      ∙ ap (λ o. leaf_of (Some Once) (numbers_of o)) s.1 in
      e ∙ one ∙ names s.0 same.0 same.1 same.2
    where
      names : (t : SelectionVerdict) → t.crossing ≡ crossing → t.point ≡ point → t.process ≡ process
          → leaf_of (Some Once) (numbers_of (Some t))
          ≡ Ok (record { crossing = crossing; point = point; process = process })
      names t a b d = cc

  why : (v : Verdict) → path_verdict net region path ≡ v
      → IfErr (leaf_of v (numbers_of (counter net region path))) (NoneIsSound net path region)
  why None e = cut (none_is_cut net path region is_net r e)
  why (Some Never) e = let said' = some_is_fate net path region is_net r Never e in never said'.0 said'.1
  why (Some Many) e = let said' = some_is_fate net path region is_net r Many e in many said'.0 said'.1
  why (Some Differing) e = let said' = some_is_fate net path region is_net r Differing e in differing said'.0 said'.1
  why (Some Unassigned) e = let said' = some_is_fate net path region is_net r Unassigned e in unassigned said'.0 said'.1
  why (Some Once) e =
      let s = once_is_sound net path region is_net r e in
      subst (λ o. IfErr (leaf_of (Some Once) (numbers_of o)) (NoneIsSound net path region)) (sym s.1) tt

  pub answer_none : (result : Result Counted Fault) → result
      ≡ leaf_of (path_verdict net region path) (numbers_of (counter net region path))
      → IfErr result (NoneIsSound net path region)
  answer_none result e = subst (λ x. IfErr x (NoneIsSound net path region)) (sym e)
      (why (path_verdict net region path) refl)

  -- ---- the same where the packets are exempt

  never_said : (v : Verdict) → path_verdict net region path ≡ v → OnOk (never_of v) (SoundNever net path region)
  never_said None e = tt
  never_said (Some Never) e = never_is_sound net path region is_net r e
  never_said (Some Once) e = tt
  never_said (Some Many) e = tt
  never_said (Some Differing) e = tt
  never_said (Some Unassigned) e = tt

  pub never_sound : (result : Result (Unit {0}) Fault) → result ≡ never_of (path_verdict net region path)
      → OnOk result (SoundNever net path region)
  never_sound result e = subst (λ x. OnOk x (SoundNever net path region)) (sym e)
      (never_said (path_verdict net region path) refl)

  pub never_every : (result : Result (Unit {0}) Fault) → result ≡ never_of (path_verdict net region path)
      → SoundNever net path region → result ≡ Ok tt
  never_every result e leaf = e ∙ ap never_of (sound_is_never net path region is_net r leaf)

  never_why : (v : Verdict) → path_verdict net region path ≡ v → IfErr (never_of v) (NeverIsUnsound net path region)
  never_why None e = is_cut (none_is_cut net path region is_net r e)
  never_why (Some Never) e = tt
  never_why (Some Many) e = let said' = some_is_fate net path region is_net r Many e in is_many said'.0 said'.1
  never_why (Some Differing) e = let said' = some_is_fate net path region is_net r Differing e in
      is_differing said'.0 said'.1
  never_why (Some Unassigned) e = let said' = some_is_fate net path region is_net r Unassigned e in
      is_unassigned said'.0 said'.1
  never_why (Some Once) e = let said' = some_is_fate net path region is_net r Once e in is_once said'.0 said'.1

  pub never_none : (result : Result (Unit {0}) Fault) → result ≡ never_of (path_verdict net region path)
      → IfErr result (NeverIsUnsound net path region)
  never_none result e = subst (λ x. IfErr x (NeverIsUnsound net path region)) (sym e)
      (never_why (path_verdict net region path) refl)
