-- The certificates of several declarations are one for all their classes.
use Rattle.std.proofs.Common.{◌≡◌, ℕ, zero, suc, List, [], ◌∷◌, ◌++◌, length, refl, ap, ◌∙◌, Some, inl, inr, ◌⊎◌}
use Rattle.fx_base.specs.Entries.{entry_numbered}
use Rattle.fx_machine.specs.Claim.{ExactlyOnce, OnceModulo}
use Rattle.fx_tables.specs.Classes.{Class}
use Rattle.fx_tables.specs.Network.{Net, entries}
use Rattle.fx_tables.specs.Ranks.{IsNetwork}
use Rattle.fx_leaf.specs.Certificates.{Tree, Sound}
use Rattle.fx_leaf.proofs.Headline as headline
use Rattle.fx_check.specs.Certificates.{AreFor}
use Rattle.fx_check.specs.Declarations.{AllCertified, all_classes}

-- an entry of two lists in a row is one of the first, where the first of two others beside them has its entry, or one
-- of the second, where the second has it
abbrev Stands : {A B : Type 0} → List A → List A → List B → List B → ℕ → A → Type 0
Stands xs more ys others c x =
    ((entry_numbered xs c ≡ Some x) × (entry_numbered (ys ++ others) c ≡ entry_numbered ys c))
    ⊎ ((m : ℕ) × (entry_numbered more m ≡ Some x) × (entry_numbered (ys ++ others) c ≡ entry_numbered others m))

stands : {A B : Type 0} (xs more : List A) (ys others : List B) (c : ℕ) (x : A) → length xs ≡ length ys
    → entry_numbered (xs ++ more) c ≡ Some x → Stands xs more ys others c x
stands xs more ys others zero x same e = absurd cc
stands [] more [] others (suc k) x same e = inr (suc k, e, refl)
stands [] more (y ∷ ys) others (suc k) x same e = absurd cc
stands (a ∷ xs) more [] others (suc k) x same e = absurd cc
stands (a ∷ xs) more (y ∷ ys) others (suc zero) x same e = inl (e, refl)
stands (a ∷ xs) more (y ∷ ys) others (suc (suc k)) x same e =
    let as_long : length xs ≡ length ys = cc in
    elim (stands xs more ys others (suc k) x as_long e) [
      | inl h ↦ inl (h.0, h.1)
      | inr h ↦ inr (h.0, h.1, h.2)
    ]

as_many : (classes : List Class) (trees : List (List Tree)) → AreFor classes trees → length classes ≡ length trees
as_many [] [] h = refl
as_many [] (xs ∷ trees) h = absurd h
as_many (class ∷ classes) [] h = absurd h
as_many (class ∷ classes) (xs ∷ trees) h = ap suc (as_many classes trees h.1)

abbrev all_trees : (net : Net) (declarations : List (List Class)) → AllCertified net declarations → List (List Tree)
all_trees net [] h = []
all_trees net (classes ∷ declarations) h = h.0.1.trees ++ all_trees net declarations h.1

all_sound : (net : Net) (declarations : List (List Class)) (h : AllCertified net declarations)
    → Sound net (all_classes declarations) (all_trees net declarations h)
all_sound net [] h zero m class path e f = absurd cc
all_sound net [] h (suc c) m class path e f = absurd cc
all_sound net (classes ∷ declarations) h c m class path e f =
    elim (stands classes (all_classes declarations) h.0.1.trees (all_trees net declarations h.1) c class
    (as_many classes h.0.1.trees h.0.1.each) e) [
      | inl k ↦
          let t = h.0.1.sound c m class path k.0 f in
          (t.0, ap (λ o. entry_numbered (entries o) m) k.1 ∙ t.1, t.2)
      | inr k ↦
          let t = all_sound net declarations h.1 k.0 m class path k.1 f in
          (t.0, ap (λ o. entry_numbered (entries o) m) k.2 ∙ t.1, t.2)
    ]

pub joined_once : (net : Net) (declarations : List (List Class)) → IsNetwork net → AllCertified net declarations
    → ExactlyOnce net (all_classes declarations)
joined_once net declarations is_net h =
    headline.exactly_once net (all_classes declarations) (all_trees net declarations h) is_net
    (all_sound net declarations h)

pub joined_modulo : (net : Net) (declarations : List (List Class)) → IsNetwork net → AllCertified net declarations
    → OnceModulo net (all_classes declarations)
joined_modulo net declarations is_net h =
    headline.once_modulo net (all_classes declarations) (all_trees net declarations h) is_net
    (all_sound net declarations h)
