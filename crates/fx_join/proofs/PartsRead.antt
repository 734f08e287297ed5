-- Parts that are read one after another.
use Rattle.std.proofs.Common.{◌≡◌, ℕ, suc, ◌+◌, List, [], ◌∷◌, ◌++◌, length, Option, Some, None, IfSome, refl, sym, ap, ◌∙◌, subst, append_assoc, arith}
use Rattle.std.proofs.lemmas.List.{length-append}
use Rattle.std.specs.List.{AllByRecursion}
use Rattle.std.specs.Io.KnownBytes.{prepend_known}
use Rattle.fx_base.proofs.GoingOn.{something_left}
use Rattle.fx_base.specs.Device.{MayBeLeft, MayHaveLeft}
use Rattle.fx_base.specs.Lines.{text_lines}
use Rattle.fx_join.specs.PartTexts.{BeginsWith, IsFollowedBy, IsFollowedByNone, IsReadTo, PartText, TextLine, first_part}
use Rattle.fx_join.specs.Taking.{LacksFirst, TakesFirst}
use Rattle.fx_join.proofs.Taken.{left_behind, taken_with}

-- ---- one part more

begins_more : (lines : List TextLine) (parts : List PartText) (part : PartText) (behind rest : List TextLine)
    → BeginsWith lines parts behind → first_part behind ≡ Some (part, rest)
    → BeginsWith lines (parts ++ part ∷ []) rest
begins_more lines [] part behind rest is next = (rest, ap first_part is ∙ next, refl)
begins_more lines (p ∷ ps) part behind rest (first, is, more) next =
    (first, is, begins_more first ps part behind rest more next)

all_more : {X : Type 0} (P : X → Type 0) (xs : List X) (x : X) → AllByRecursion P xs → P x
    → AllByRecursion P (xs ++ x ∷ [])
all_more P [] x all one = (one, tt)
all_more P (y ∷ ys) x (first, rest) one = (first, all_more P ys x rest one)

-- ---- what was read

-- of the octets that were left at first, these parts were taken, each with the property, and these octets are left
pub record HasRead (P : PartText → Type 0) (first now : Option (List ℕ)) (parts : List PartText) : Type 0 where
  pub taken : List ℕ
  pub before : prepend_known taken now ≡ first
  pub are : (rest : List ℕ) → BeginsWith (text_lines (taken ++ rest)) parts (text_lines rest)
  pub all : AllByRecursion P parts

pub nothing_read : (P : PartText → Type 0) (first now : Option (List ℕ)) → prepend_known [] now ≡ first
    → HasRead P first now []
nothing_read P first now is = record { taken = []; before = is; are = λ rest. refl; all = tt }

pub part_read : (P : PartText → Type 0) (first now new : Option (List ℕ)) (parts : List PartText) (part : PartText)
    → HasRead P first now parts → TakesFirst first_part now new part → P part → HasRead P first new (parts ++ part ∷ [])
part_read P first now new parts part h t p = record {
  taken = h.taken ++ t.taken;
  before = taken_with h.taken t.taken first now new t.before h.before;
  are = λ rest. begins_more (text_lines ((h.taken ++ t.taken) ++ rest)) parts part (text_lines (t.taken ++ rest))
      (text_lines rest)
      (subst (λ (o : List ℕ). BeginsWith (text_lines o) parts (text_lines (t.taken ++ rest)))
      (sym (append_assoc h.taken t.taken rest)) (h.are (t.taken ++ rest))) (t.is_first rest);
  all = all_more P parts part h.all p;
}

pub one_longer : {X : Type 0} (xs : List X) (x : X) → length (xs ++ x ∷ []) ≡ suc (length xs)
one_longer xs x = omega (arith, length-append xs (x ∷ []))

-- ---- where the reading ends

-- at the end
pub read_all : (P : PartText → Type 0) (first now : Option (List ℕ)) (parts : List PartText) → HasRead P first now parts
    → MayBeLeft now [] → MayHaveLeft first (λ octets. IsReadTo P octets parts [])
read_all P first now parts h left = (
  h.taken ++ [],
  left_behind h.taken [] first now h.before left,
  record { begins = h.are []; all = h.all },
)

-- at a part
pub read_before : (P : PartText → Type 0) (first now new : Option (List ℕ)) (parts : List PartText) (part : PartText)
    → HasRead P first now parts → TakesFirst first_part now new part → MayHaveLeft first (IsFollowedBy P parts part)
read_before P first now new parts part h t =
    let some = something_left new in (
      h.taken ++ (t.taken ++ some.0),
      left_behind h.taken (t.taken ++ some.0) first now h.before
          (left_behind t.taken some.0 now new t.before some.1),
      record {
        lines = text_lines (t.taken ++ some.0);
        read_to = record { begins = h.are (t.taken ++ some.0); all = h.all };
        behind = text_lines some.0;
        next = t.is_first some.0;
      },
    )

-- where no part is
pub read_before_none : (P : PartText → Type 0) (first now : Option (List ℕ)) (parts : List PartText)
    → HasRead P first now parts → (lacks : LacksFirst first_part now) × (text_lines lacks.octets ≡ [] → ⊥)
    → MayHaveLeft first (IsFollowedByNone P parts)
read_before_none P first now parts h (lacks, some) = (
  h.taken ++ lacks.octets,
  left_behind h.taken lacks.octets first now h.before lacks.left,
  record {
    lines = text_lines lacks.octets;
    read_to = record { begins = h.are lacks.octets; all = h.all };
    some = some;
    none = lacks.none;
  },
)
