-- The regions of a target that are ahead, as a stack.
use Rattle.std.proofs.Common.{◌≡◌, ℕ, ◌+◌, ◌<◌, ◌≤◌, true, false, drop, get_or, length, Option, Some, None, List, [], ◌∷◌, ◌++◌, map, refl, reverse, sym, ap, subst, ◌∙◌, append_assoc}
use Rattle.std.proofs.lemmas.List.{reverse-append}
use Rattle.fx_boxes.specs.Boxes.{Bounds, IsStrictlyInside}
use Rattle.fx_elements.specs.Axes.{axis_index}
use Rattle.fx_elements.specs.declared.axis.Axis.{Axis}
use Rattle.fx_leaf.specs.PathSelections.{AreNarrowed, IsNarrowed, PathSelection}
use Rattle.fx_leaf.proofs.NarrowedRegions.{above_lies, below_lies, last_narrowed, part_narrowed, split_narrowed, still_narrowed}
use Rattle.std.specs.Option.{is_some}
use Rattle.fx_cert.specs.declared.item.Item.{Item}
use Rattle.fx_cert.specs.declared.item.Version.{Version}
use Rattle.fx_tables.specs.Network.{Net}
use Rattle.fx_leaf.proofs.JoinedVerdicts.{drop_here}
use Rattle.fx_leaf.proofs.Trees.{map_append'}
use Rattle.fx_traffic.specs.Targets.{Target}
use Rattle.fx_search.specs.declared.growing.Waiting.{Waiting}
use Rattle.fx_search.specs.declared.stop.Stop.{Stop}
use Rattle.fx_search.specs.Fronts.{RegionAhead, lower, root, upper}
use Rattle.fx_search.specs.Growing.{AllOf, AreAhead, IsGrowing, IsGrown, front}

pub front_append : (ws vs : List Waiting) → front (ws ++ vs) ≡ front vs ++ front ws
front_append ws vs = ap reverse (map_append' (λ (w : Waiting). w.ahead) ws vs)
    ∙ reverse-append (map (λ (w : Waiting). w.ahead) ws) (map (λ (w : Waiting). w.ahead) vs)

-- the last of the stack comes next
pub next_of : (stack rest : List Waiting) (w : Waiting) (later : List RegionAhead) → stack ≡ rest ++ w ∷ []
    → front stack ++ later ≡ w.ahead ∷ (front rest ++ later)
next_of stack rest w later e = ap (λ (ws : List Waiting). front ws ++ later) e
    ∙ ap (λ (as' : List RegionAhead). as' ++ later) (front_append rest (w ∷ []))

pub two_next : (ws now : List Waiting) (u v : Waiting) (later : List RegionAhead) → now ≡ ws ++ (u ∷ v ∷ []) → front now
    ++ later ≡ v.ahead ∷ u.ahead ∷ (front ws ++ later)
two_next ws now u v later e = ap (λ (xs : List Waiting). front xs ++ later) e
    ∙ ap (λ (as' : List RegionAhead). as' ++ later) (front_append ws (u ∷ v ∷ []))

-- ---- what they keep

all_front : (t : Target) (ws : List Waiting) (w : Waiting) → AllOf t (ws ++ w ∷ []) → AllOf t ws × (w.ahead.target ≡ t)
all_front t [] w h = (tt, h.0)
all_front t (v ∷ vs) w h = let r = all_front t vs w h.1 in ((h.0, r.0), r.1)

all_more : (t : Target) (ws : List Waiting) (w : Waiting) → AllOf t ws → w.ahead.target ≡ t → AllOf t (ws ++ w ∷ [])
all_more t [] w h e = (e, tt)
all_more t (v ∷ vs) w h e = (h.0, all_more t vs w h.1 e)

pub last_target : (xs : List PathSelection) (t : Target) (ws : List Waiting) (w : Waiting)
    → AreAhead xs t (ws ++ w ∷ []) → w.ahead.target ≡ t
last_target xs t ws w h = (all_front t ws w h.all).1

pub last_ahead : (xs : List PathSelection) (t : Target) (ws : List Waiting) (w : Waiting) → AreAhead xs t (ws ++ w ∷ [])
    → IsNarrowed xs w.ahead.region w.active
last_ahead xs t ws w h = last_narrowed (λ (v : Waiting). v.ahead.region) (λ (v : Waiting). v.active) xs ws w h.narrowed

-- a whole target, of which nothing is ahead yet
pub first_ahead : (xs : List PathSelection) (t : Target) (w : Waiting) → w.ahead ≡ root t
    → IsNarrowed xs t.region w.active → AreAhead xs t (w ∷ [])
first_ahead xs t w is h = record {
  all = (ap (λ (a : RegionAhead). a.target) is, tt);
  narrowed = (subst (λ (b : Bounds). IsNarrowed xs b w.active) (sym (ap (λ (a : RegionAhead). a.region) is)) h, tt, tt);
}

module _ (xs ys : List PathSelection) (t : Target) (ws : List Waiting) (here : Waiting)
    (keeps : (b : Bounds) (m : ℕ) → here.active ≤ m → IsNarrowed xs b m → IsNarrowed ys b m)
    (h : AreAhead xs t (ws ++ here ∷ [])) where
  -- after a split of the last
  pub split_ahead : (axis : Axis) (at active : ℕ) (u v : Waiting) → u
      ≡ record { ahead = upper here.ahead axis at; active = active } → v
      ≡ record { ahead = lower here.ahead axis at; active = active }
      → IsStrictlyInside here.ahead.region (axis_index axis) at → active ≤ here.active
      → IsNarrowed ys here.ahead.region active → AreAhead ys t (ws ++ (u ∷ v ∷ []))
  split_ahead axis at active u v up down inside fewer narrowed =
      let front = all_front t ws here h.all in
      let high : Waiting = record { ahead = upper here.ahead axis at; active = active } in
      let low : Waiting = record { ahead = lower here.ahead axis at; active = active } in
      let above = part_narrowed ys here.ahead.region high.ahead.region active
      (above_lies here.ahead.region (axis_index axis) at inside) narrowed in
      let below = part_narrowed ys here.ahead.region low.ahead.region active
      (below_lies here.ahead.region (axis_index axis) at inside) narrowed in
      let both = split_narrowed (λ (w : Waiting). w.ahead.region) (λ (w : Waiting). w.active) xs ys ws here high low
      fewer refl above below keeps h.narrowed in
      let of_all = all_more t (ws ++ high ∷ []) low (all_more t ws high front.0 front.1) front.1 in
      let same : (ws ++ high ∷ []) ++ low ∷ [] ≡ ws ++ (high ∷ low ∷ []) = append_assoc ws (high ∷ []) (low ∷ []) in
      rw (up, down) (record {
        all = subst (AllOf t) same of_all;
        narrowed =
            subst (AreNarrowed (λ (w : Waiting). w.ahead.region) (λ (w : Waiting). w.active) ys) same both;
      })

  -- after a leaf for the last
  pub leaf_ahead : AreAhead ys t ws
  leaf_ahead = record {
    all = (all_front t ws here h.all).0;
    narrowed =
        still_narrowed (λ (w : Waiting). w.ahead.region) (λ (w : Waiting). w.active) xs ys ws here keeps h.narrowed;
  }

-- ---- targets one after another

-- a whole target comes next, and the targets behind it later
pub opened : (net : Net) (all : List Target) (version : Version) (most : ℕ) (items now : List Item) (lines n : ℕ)
    (ts : List Target) (k : ℕ) (t : Target) (stack : List Waiting) (active : ℕ) → k < length ts → t ≡ get_or ts k t
    → stack ≡ record { ahead = root t; active = active } ∷ [] → now ≡ items → n ≡ lines
    → IsGrowing net all version most items lines (map root (drop k ts))
    → IsGrowing net all version most now n (front stack ++ map root (drop (k + 1) ts))
opened net all version most items now lines n ts k t stack active lt is one same_items same_lines g =
    let here : drop k ts ≡ t ∷ drop (k + 1) ts = drop_here ts k t lt ∙ ap (λ (x : Target). x ∷ drop (k + 1) ts) (sym is)
    in
    let ahead : front stack ++ map root (drop (k + 1) ts) ≡ map root (drop k ts) =
    ap (λ (ws : List Waiting). front ws ++ map root (drop (k + 1) ts)) one ∙ sym (ap (map root) here) in
    rw (same_items, same_lines, ahead) g

pub none_of : {A : Type 0} (o : Option A) → is_some o ≡ false → o ≡ None
none_of None h = refl
none_of (Some x) h = absurd cc

pub some_grown : (net : Net) (all : List Target) (version : Version) (most : ℕ) (items : List Item) (lines : ℕ)
    (later : List RegionAhead) (o : Option Stop) → is_some o ≡ true → IsGrown net all version most items lines later o
    → IsGrown net all version most items lines [] o
some_grown net all version most items lines later None h g = absurd cc
some_grown net all version most items lines later (Some a) h g = g
