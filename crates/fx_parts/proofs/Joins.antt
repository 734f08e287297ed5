-- Certified parts that are joined one after another cover the classes that are marked.
use Rattle.std.proofs.Common.{◌≡◌, ◌<◌, ◌==◌, ℕ, zero, suc, Bool, true, false, not, List, [], ◌∷◌, ◌++◌, length, Option, Some, None, slice_get, refl, sym, ap, subst, ◌∙◌, arith, eqb-true, eq-eqb}
use Rattle.std.specs.Prelude.{position, replicate, slice_set}
use Rattle.std.specs.List.{list_any}
use Rattle.std.proofs.lemmas.List.{length-replicate, length-set}
use Rattle.std.proofs.lemmas.Option.{slice_get_within}
use Rattle.fx_base.specs.Entries.{entry_numbered}
use Rattle.fx_tables.specs.Network.{Net}
use Rattle.fx_tables.specs.Classes.{Class}
use Rattle.fx_tables.specs.Ranks.{IsNetwork}
use Rattle.fx_machine.specs.Claim.{ExactlyOnce, OnceModulo}
use Rattle.fx_plan.proofs.Numberings.{none_any, none_passes}
use Rattle.fx_leaf.proofs.RowsGrow.{set_elsewhere}
use Rattle.fx_parts.specs.Joins.{IsJoined, Joined, joined}
use Rattle.fx_parts.specs.Parts.{ClassesAlike, IsCertifiedPart, IsCovered, Part}
use Rattle.fx_parts.proofs.PartsCountOnce.{EachCovered, covered_if, parts_modulo, parts_once, same_there}

-- ---- a list with one more element

get_left : {A : Type 0} (xs ys : List A) (n : ℕ) (x : A) → slice_get xs n ≡ Some x → slice_get (xs ++ ys) n ≡ Some x
get_left [] ys n x e = absurd cc
get_left (z ∷ zs) ys zero x e = e
get_left (z ∷ zs) ys (suc n) x e = get_left zs ys n x e

get_last : {A : Type 0} (xs : List A) (y : A) → slice_get (xs ++ y ∷ []) (length xs) ≡ Some y
get_last [] y = refl
get_last (x ∷ xs) y = get_last xs y

all_more : {A : Type 0} (P : A → Type 0) (xs : List A) (y : A) → ((n : ℕ) (x : A) → slice_get xs n ≡ Some x → P x)
    → P y → (n : ℕ) (x : A) → slice_get (xs ++ y ∷ []) n ≡ Some x → P x
all_more P [] y all one zero x e = subst P (same_there y x e) one
all_more P [] y all one (suc n) x e = absurd cc
all_more P (z ∷ zs) y all one zero x e = all zero x e
all_more P (z ∷ zs) y all one (suc n) x e = all_more P zs y (λ m. all (suc m)) one n x e

-- ---- marks

covered_more : (whole : Net) (class : Class) (parts more : List Part) → IsCovered whole class parts
    → IsCovered whole class (parts ++ more)
covered_more whole class parts more s = record {
  place = s.place;
  part = s.part;
  number = s.number;
  inside = s.inside;
  is_part = get_left parts more s.place s.part s.is_part;
  is_class = s.is_class;
  alike = s.alike;
}

pub marked_too : (j : Joined) (part : Part) (index number : ℕ) (class inside : Class) → IsJoined j
    → IsCertifiedPart j.whole part → slice_get j.classes index ≡ Some class
    → entry_numbered part.classes number ≡ Some inside → ClassesAlike part.net j.whole part.places inside class
    → IsJoined (record j { covered = slice_set j.covered index true })
marked_too j part index number class inside is certified at_class at_inside alike = record {
  network = is.network;
  each = length-set j.covered index true ∙ is.each;
  parts = is.parts ++ part ∷ [];
  certified = all_more (IsCertifiedPart j.whole) is.parts part is.certified certified;
  marked = λ k. λ c. λ m. λ e. elim (k == index)
      as (λ b. (k == index) ≡ b → IsCovered j.whole c (is.parts ++ part ∷ [])) [
        | true ↦ λ same. record {
          place = length is.parts;
          part = part;
          number = number;
          inside = inside;
          is_part = get_last is.parts part;
          is_class = at_inside;
          alike = subst (ClassesAlike part.net j.whole part.places inside)
              (same_there class c (sym at_class ∙ subst (λ i. slice_get j.classes i ≡ Some c) (eqb-true k index same)
              e))
              alike;
        }
        | false ↦ λ other. covered_more j.whole c is.parts (part ∷ [])
            (is.marked k c (sym (set_elsewhere j.covered index k true (λ q. let t = eq-eqb k index (sym q) in cc)) ∙ m)
            e)
      ] refl;
}

-- ---- all classes are marked

all_true : (xs : List Bool) → list_any not xs ≡ false → (k : ℕ) → k < length xs → slice_get xs k ≡ Some true
all_true [] none k less = absurd (omega (arith, less))
all_true (true ∷ xs) none zero less = refl
all_true (true ∷ xs) none (suc k) less = all_true xs none k (omega (arith, less))
all_true (false ∷ xs) none k less = absurd cc

pub joined_covers : (j : Joined) (is : IsJoined j) → position not j.covered ≡ None
    → EachCovered j.whole is.parts j.classes
joined_covers j is none k class e =
    let inside = slice_get_within j.classes k class e in
    let no : list_any not j.covered ≡ false = none_any not j.covered (none_passes not j.covered none) in
    is.marked k class (all_true j.covered no k (omega (arith, inside, is.each))) e

-- ---- at the beginning, and at the end

none_marked : (n k : ℕ) → slice_get (replicate n false) k ≡ Some true → ⊥
none_marked zero k e = cc
none_marked (suc n) zero e = cc
none_marked (suc n) (suc k) e = none_marked n k e

pub none_joined : (whole : Net) (classes : List Class) (covered : List Bool) (n : ℕ) → IsNetwork whole
    → covered ≡ replicate n false → n ≡ length classes → IsJoined (joined whole classes covered)
none_joined whole classes covered n network none many = record {
  network = network;
  each = ap length none ∙ length-replicate n false ∙ many;
  parts = [];
  certified = λ k. λ part. λ e. absurd cc;
  marked = λ k. λ class. λ m. λ e.
      absurd (none_marked n k (subst (λ xs. slice_get xs k ≡ Some true) none m));
}

pub once_if : (j k : Joined) (r : Option ℕ) (xs : List Bool) → j ≡ k → IsJoined k → r ≡ position not xs
    → xs ≡ k.covered → r ≡ None → ExactlyOnce j.whole j.classes
once_if j k r xs same is found all none =
    let no : position not k.covered ≡ None = subst (λ ys. position not ys ≡ None) all (sym found ∙ none) in
    subst (λ (x : Joined). ExactlyOnce x.whole x.classes) (sym same)
    (parts_once k.whole k.classes is.parts is.network is.certified
    (covered_if k.whole k.classes is.parts (joined_covers k is no)))

pub modulo_if : (j k : Joined) (r : Option ℕ) (xs : List Bool) → j ≡ k → IsJoined k → r ≡ position not xs
    → xs ≡ k.covered → r ≡ None → OnceModulo j.whole j.classes
modulo_if j k r xs same is found all none =
    let no : position not k.covered ≡ None = subst (λ ys. position not ys ≡ None) all (sym found ∙ none) in
    subst (λ (x : Joined). OnceModulo x.whole x.classes) (sym same)
    (parts_modulo k.whole k.classes is.parts is.network is.certified
    (covered_if k.whole k.classes is.parts (joined_covers k is no)))
