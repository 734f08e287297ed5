-- What an item between the trees of targets does.
use Rattle.std.proofs.Common.{◌≡◌, ◌≢◌, ℕ, suc, ◌∷◌, ◌<◌, ◌≤◌, ◌==◌, ◌&&◌, false, List, [], length, get_or, drop, refl, sym, ◌∙◌, ap, subst, arith, eq-eqb, Ok, Err, ◌⊎◌, inl, inr}
use Rattle.std.proofs.Math.Bool.{and-false}
use Rattle.std.proofs.lemmas.Bool.{ne_eqb}
use Rattle.std.proofs.lemmas.List.{drop_all}
use Rattle.std.proofs.lemmas.Option.{get_or_from_slice_get}
use Rattle.std.proofs.Math.Seq.{drop-cons}
use Rattle.fx_boxes.specs.Boxes.{Bounds}
use Rattle.fx_cert.specs.declared.item.Item.{Item}
use Rattle.fx_cert.specs.declared.item.Item.TheVariants as item
use Rattle.fx_cert.specs.declared.item.Version.{Version}
use Rattle.fx_leaf.specs.PathTables.{IsPathBegun, PathTable}
use Rattle.fx_leaf.specs.Tables.{Tables}
use Rattle.fx_traffic.specs.Targets.{Target}
use Rattle.fx_check.specs.Judging.{Judge}
use Rattle.fx_check.specs.FirstRefusal.{after}
use Rattle.fx_check.specs.Remaining.{AreDeep, goals_at, HasBegun, IsConsistentAt, IsInTree}
use Rattle.fx_check.specs.declared.progress.Stage.{Stage}
use Rattle.fx_check.specs.declared.progress.Stage.TheVariants as stage
use Rattle.fx_check.specs.declared.line_fault.LineFault.TheVariants as faults
use Rattle.fx_check.specs.declared.stack.WaitingRegion.{WaitingRegion}

-- the whole region of a target, for which so many selection processes matter
abbrev pub region_whole : Bounds → ℕ → WaitingRegion
region_whole region active = record { region = region; depth = 0; active = active }

pub none_waits : (ts : List Target) (at : ℕ) (ws : List WaitingRegion) (s : Stage) → s ≡ stage.Between
    → IsConsistentAt ts at ws s → ws ≡ []
none_waits ts at ws s e h = subst (λ (x : Stage). IsConsistentAt ts at ws x) e h

pub deep_none : (ws : List WaitingRegion) → ws ≡ [] → AreDeep ws 0
deep_none ws none = rw none (omega arith, omega arith, tt)

pub not_both : (a b c d : ℕ) → (a ≢ b) ⊎ (c ≢ d) → (a == b && c == d) ≡ false
not_both a b c d (inl h) = rw (ne_eqb a b h) refl
not_both a b c d (inr h) = rw (ne_eqb c d h) (and-false (a == b))

module _ (z : Version) (judge : Judge) (made : ℕ) (ts : List Target) (at : ℕ) (ws : List WaitingRegion) (s : Stage)
    (i : Item) (e : s ≡ stage.Between) where
  first_left : (t : Target) → at < length ts → t ≡ get_or ts at t → drop at ts ≡ t ∷ drop (suc at) ts
  first_left t lt is = drop-cons ts at t lt ∙ ap (λ (x : Target). x ∷ drop (suc at) ts) (sym is)

  pub class_opens : (t : Target) (class path : ℕ) (region : Bounds) (active : ℕ) → ws ≡ [] → at < length ts → t
      ≡ get_or ts at t → i ≡ item.Class class path → class ≡ t.class → path ≡ t.path → region ≡ t.region
      → after judge made (goals_at z ts at ws s) i ≡ Ok (goals_at z ts at ws (stage.Tree (region_whole region active)))
  class_opens t class path region active none lt is said c p same =
      rw (e, said, none, first_left t lt is, eq-eqb class t.class c, eq-eqb path t.path p, same) refl

  pub wrong_class : (t : Target) (class path : ℕ) → at < length ts → t ≡ get_or ts at t → i ≡ item.Class class path
      → (class == t.class && path == t.path) ≡ false → after judge made (goals_at z ts at ws s) i ≡ Err faults.Place
  wrong_class t class path lt is said other = rw (e, said, first_left t lt is, other) refl

  pub no_class : (t : Target) → at < length ts → t ≡ get_or ts at t → ((class path : ℕ) → i ≢ item.Class class path)
      → after judge made (goals_at z ts at ws s) i ≡ Err faults.Place
  no_class t lt is other = rw (e, first_left t lt is) (go i other) where
    go : (j : Item) → ((class path : ℕ) → j ≢ item.Class class path)
        → after judge made (goals_at z (t ∷ drop (suc at) ts) 0 ws stage.Between) j ≡ Err faults.Place
    go (item.Header v) h = refl
    go (item.Class c m) h = absurd (h c m refl)
    go (item.Leaf crossing point process) h = refl
    go (item.Split a v) h = refl
    go item.Never h = refl
    go item.End h = refl

  pub end_closes : length ts ≤ at → i ≡ item.End → after judge made (goals_at z ts at ws s) i ≡ Ok []
  end_closes le said = rw (e, said, drop_all at ts le) refl

  pub no_end : length ts ≤ at → i ≢ item.End → after judge made (goals_at z ts at ws s) i ≡ Err faults.Place
  no_end le ne = rw (e, drop_all at ts le) (go i ne) where
    go : (j : Item) → j ≢ item.End → after judge made (goals_at z [] 0 ws stage.Between) j ≡ Err faults.Place
    go (item.Header v) h = refl
    go (item.Class c m) h = refl
    go (item.Leaf crossing point process) h = refl
    go (item.Split a v) h = refl
    go item.Never h = refl
    go item.End h = absurd (h refl)

-- a path is begun in its target's tree
pub opens_begun : (tables : Tables) (ts : List Target) (at : ℕ) (w : WaitingRegion) (t : Target) (room : PathTable) → t
    ≡ get_or ts at t → IsPathBegun tables t.crossings room → HasBegun tables ts at (stage.Tree w) room
opens_begun tables ts at w t room is begun =
    λ target got. subst (λ (x : Target). IsPathBegun tables x.crossings room)
    (is ∙ get_or_from_slice_get ts at target t got) begun

-- it stays begun where another region of the tree comes next
pub still_begun : (tables : Tables) (ts : List Target) (at : ℕ) (s : Stage) (w : WaitingRegion) (room : PathTable)
    → IsInTree s → HasBegun tables ts at s room → HasBegun tables ts at (stage.Tree w) room
still_begun tables ts at stage.Header w room i begun = absurd i
still_begun tables ts at stage.Between w room i begun = absurd i
still_begun tables ts at (stage.Tree v) w room i begun = begun
still_begun tables ts at stage.Ended w room i begun = absurd i
