-- A verdict says whether something cuts the region, which fate its packets have, and which leaf is sound.
use Rattle.std.proofs.Common.{◌≡◌, ℕ, suc, true, List, [], ◌∷◌, ◌++◌, All, Some, None, refl, sym, ap, ◌∙◌, subst, arith}
use Rattle.fx_elements.specs.Axes.{Fields}
use Rattle.fx_boxes.specs.Boxes.{Bounds, IsRegion, holds}
use Rattle.fx_tables.specs.declared.traffic.Crossing.{Crossing}
use Rattle.fx_tables.specs.Network.{Net}
use Rattle.fx_leaf.specs.declared.verdict.Fate.{Fate}
use Rattle.fx_leaf.specs.declared.verdict.Fate.TheVariants.{Never, Once}
use Rattle.fx_leaf.specs.SoundLeaves.{Met, met_fate, OneCounted}
use Rattle.fx_leaf.specs.Verdicts.{Verdict, SelectionVerdict, path_verdict}
use Rattle.fx_leaf.specs.Answers.{NoneIsCut, SomeIsFate, OnceIsSound, NoOtherIsSound, NeverIsSound, SoundIsNever, OnEveryRegion}
use Rattle.fx_leaf.proofs.OverlapsAreRight.{in_holds, is_low, ordered}
use Rattle.fx_leaf.proofs.Trees.{counted_once, counted_never, never_counted}
use Rattle.fx_leaf.proofs.Paths.{packet_said, packet_counted}
use Rattle.fx_leaf.proofs.VerdictsWhereUncut.{selections_uncut, matches_uncut, path_lost}

-- the least packet of a region
pub low_holds : (region : Bounds) → IsRegion region → holds region region.low ≡ true
low_holds region r = in_holds region region.low (is_low region (ordered region r))

pub none_is_cut : OnEveryRegion NoneIsCut
none_is_cut net path region is_net r h nothing =
    path_lost net is_net region r path region.low (low_holds region r) nothing.0 nothing.1 h

pub some_is_fate : OnEveryRegion SomeIsFate
some_is_fate net path region is_net r f h = (
  (selections_uncut net is_net region r path (f, h), matches_uncut net is_net region r path (f, h)),
  λ fields.
      λ here. packet_said net is_net.fits region r fields here path f h,
)

same_some : {A : Type 0} {x y : A} → Some x ≡ Some y → x ≡ y
same_some h = cc

pub once_is_sound : OnEveryRegion OnceIsSound
once_is_sound net path region is_net r h =
    let one = packet_counted net is_net.fits region r region.low (low_holds region r) path h in
    let said = some_is_fate net path region is_net r Once h in (
      one.0,
      one.1,
      record {
        selections = said.0.0;
        matches = said.0.1;
        counted = λ fields. λ here. let own = packet_counted net is_net.fits region r fields here path h in
            subst (λ (s : SelectionVerdict). OneCounted net path s.crossing s.point s.process fields)
            (same_some (sym own.1 ∙ one.1)) own.2;
      },
    )

-- one list has one element of fate once
module _ (fate_of : Met → Fate) where
  clash : (m : Met) → fate_of m ≡ Never → fate_of m ≡ Once → ⊥
  clash m n o = let e : Never ≡ Once = sym n ∙ o in absurd (cc)

  abbrev AllNever : List Met → Type 0
  AllNever ms = All (λ m. fate_of m ≡ Never) ms

  first_never : (m : Met) (ms : List Met) → AllNever (m ∷ ms) → fate_of m ≡ Never
  first_never m ms h = h 0 m (omega arith)

  others_never : (m : Met) (ms : List Met) → AllNever (m ∷ ms) → AllNever ms
  others_never m ms h k d lt = h (suc k) d (omega arith)

  head_is : (x y : Met) (xs ys : List Met) → x ∷ xs ≡ y ∷ ys → x ≡ y
  head_is x y xs ys e = cc

  rest_is : (x y : Met) (xs ys : List Met) → x ∷ xs ≡ y ∷ ys → xs ≡ ys
  rest_is x y xs ys e = cc

  one_name : (b1 b2 a1 a2 : List Met) (m n : Met) → b1 ++ m ∷ a1 ≡ b2 ++ n ∷ a2 → AllNever b1 → AllNever b2 → fate_of m
      ≡ Once → fate_of n ≡ Once → m ≡ n
  one_name [] [] a1 a2 m n e h k p q = head_is m n a1 a2 e
  one_name [] (y ∷ b2) a1 a2 m n e h k p q =
      absurd (clash m (ap fate_of (head_is m y a1 (b2 ++ n ∷ a2) e) ∙ first_never y b2 k) p)
  one_name (x ∷ b1) [] a1 a2 m n e h k p q =
      absurd (clash n (sym (ap fate_of (head_is x n (b1 ++ m ∷ a1) a2 e)) ∙ first_never x b1 h) q)
  one_name (x ∷ b1) (y ∷ b2) a1 a2 m n e h k p q =
      one_name b1 b2 a1 a2 m n (rest_is x y (b1 ++ m ∷ a1) (b2 ++ n ∷ a2) e) (others_never x b1 h) (others_never y b2 k)
      p q

same_names : (net : Net) (path : List Crossing) (fields : Fields) (s : SelectionVerdict) (crossing point process : ℕ)
    → OneCounted net path s.crossing s.point s.process fields → OneCounted net path crossing point process fields
    → (s.crossing ≡ crossing) × (s.point ≡ point) × (s.process ≡ process)
same_names net path fields s crossing point process a b =
    let one = one_name (met_fate net fields) a.before b.before a.after b.after a.named b.named (sym a.all ∙ b.all)
    a.never_before b.never_before a.once b.once in (
      sym a.crossing_is ∙ ap (λ (m : Met). m.crossing) one ∙ b.crossing_is,
      sym a.point_is
          ∙ ap (λ (m : Met). m.occurrence.point) one ∙ b.point_is,
      sym a.process_is
          ∙ ap (λ (m : Met). m.occurrence.process) one ∙ b.process_is,
    )

pub no_other_is_sound : OnEveryRegion NoOtherIsSound
no_other_is_sound net path region is_net r crossing point process leaf =
    let here = low_holds region r in
    let verdict' = by (path_verdict net region path) refl in (
      verdict',
      λ s. λ e.
          let own = packet_counted net is_net.fits region r region.low here path verdict' in
          let same : own.0 ≡ s = same_some (sym own.1 ∙ e) in
          same_names net path region.low s crossing point process
          (subst (λ (t : SelectionVerdict). OneCounted net path t.crossing t.point t.process region.low) same own.2)
          (leaf.counted region.low here),
    )
  where
    by : (v : Verdict) → path_verdict net region path ≡ v → path_verdict net region path ≡ Some Once
    by None e = absurd (none_is_cut net path region is_net r e (leaf.selections, leaf.matches))
    by (Some f) e =
        let here = low_holds region r in
        let f_is : f ≡ Once = sym (packet_said net is_net.fits region r region.low here path f e)
        ∙ counted_once net region.low path crossing point process (leaf.counted region.low here) in
        e ∙ ap Some f_is

pub never_is_sound : OnEveryRegion NeverIsSound
never_is_sound net path region is_net r h =
    let said = some_is_fate net path region is_net r Never h in
    record {
      selections = said.0.0;
      matches = said.0.1;
      uncounted = λ fields. λ here. never_counted net fields path (said.1 fields here);
    }

pub sound_is_never : OnEveryRegion SoundIsNever
sound_is_never net path region is_net r leaf = by (path_verdict net region path) refl
  where
    by : (v : Verdict) → path_verdict net region path ≡ v → path_verdict net region path ≡ Some Never
    by None e = absurd (none_is_cut net path region is_net r e (leaf.selections, leaf.matches))
    by (Some f) e =
        let here = low_holds region r in
        let f_is : f ≡ Never = sym ((some_is_fate net path region is_net r f e).1 region.low here)
        ∙ counted_never net region.low path (leaf.uncounted region.low here) in
        e ∙ ap Some f_is
