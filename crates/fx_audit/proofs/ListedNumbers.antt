-- Each fault of a document has a number that is listed.
use Rattle.std.proofs.Common.{◌≡◌, ℕ, zero, suc, ◌+◌, Bool, true, false, cond, refl, List, [], ◌∷◌, ◌++◌, Option, Some, None}
use Rattle.std.specs.Prelude.{⊤, nat_lt, not, is_some, length, map}
use Rattle.std.specs.List.{filter}
use Rattle.serde_json.specs.Data.{Data, Members}
use Rattle.serde_json.specs.Find.{get, as_number, as_object, as_str, as_u64}
use Rattle.fx_base.specs.Refusals.{bad_value, is_refusal_number, missing_member, name_twice, too_many_entries, unknown_member, wrong_kind}
use Rattle.fx_walk.specs.Pointer.{below, nth}
use Rattle.fx_walk.specs.Walk.{FoundFault, Row, fault_if, faults_if_there, faults_or_missing, names, object_faults, of_kind, open_object_faults, optional, others, required_row, row_faults, then_check, unread}
use Rattle.fx_walk.specs.Choice.{none_of, numbered_faults, one_of, unless_one}
use Rattle.fx_walk.specs.KnownNames.{member_references, unknown, unknown_if_there}
use Rattle.fx_walk.specs.Lists.{by_length, entries, entries_faults, faults_of_list, items, items_faults, items_in, list_faults_by, list_row, name_once, name_once_by}
use Rattle.fx_walk.specs.RequiredLists.{required_entries, required_items}
use Rattle.fx_walk.specs.Scalars.{empty_faults, name_faults, text_faults, text_that, whole_faults, whole_in, word_faults}

-- ---- faults, and rows of them

pub data AreListed : List FoundFault → Type 0 where
  none : AreListed []
  more : (number : ℕ) (up : List ℕ) (fs : List FoundFault) → is_refusal_number number ≡ true → AreListed fs
      → AreListed ((number, up) ∷ fs)

abbrev pub AllListed : (List ℕ → Data → List FoundFault) → Type 0
AllListed faults = (up : List ℕ) (d : Data) → AreListed (faults up d)

-- the same of faults by a table, and of a row of it
pub data FaultsListed : (List ℕ → Data → List FoundFault) → Type 0 where
  faults_listed : (faults : List ℕ → Data → List FoundFault) → AllListed faults → FaultsListed faults

pub data RowListed : Row → Type 0 where
  row_listed : (row : Row) → AllListed row.faults → RowListed row

abbrev pub RowsListed : List Row → Type 0
RowsListed [] = ⊤
RowsListed (row ∷ rows) = RowListed row × RowsListed rows

pub of_faults : (faults : List ℕ → Data → List FoundFault) → FaultsListed faults → AllListed faults
of_faults faults (faults_listed f all) = all

of_row : (row : Row) → RowListed row → AllListed row.faults
of_row row (row_listed r all) = all

pub both_listed : {a b : List FoundFault} → AreListed a → AreListed b → AreListed (a ++ b)
both_listed none y = y
both_listed {b = b} (more number up fs is all) y = more number up (fs ++ b) is (both_listed all y)

-- a fault alone
one_fault : (number : ℕ) (up : List ℕ) → is_refusal_number number ≡ true → AreListed ((number, up) ∷ [])
one_fault number up is = more number up [] is none

pub if_listed : (test : Bool) (number : ℕ) (up : List ℕ) → is_refusal_number number ≡ true
    → AreListed (fault_if test number up)
if_listed true number up is = one_fault number up is
if_listed false number up is = none

pub kind_listed : {X : Type 0} (o : Option X) (faults : X → List FoundFault) (up : List ℕ)
    → ((x : X) → AreListed (faults x)) → AreListed (of_kind o faults up)
kind_listed None faults up all = one_fault wrong_kind up refl
kind_listed (Some x) faults up all = all x

rows_listed : (rows : List Row) → RowsListed rows → (up : List ℕ) (d : Data) → AreListed (row_faults rows up d)
rows_listed [] all up d = none
rows_listed (row ∷ rows) all up d = both_listed (of_row row all.0 up d) (rows_listed rows all.1 up d)

unlisted_members : (up : List ℕ) (ks : List (List ℕ)) → AreListed (map (λ k. (unknown_member, below up k)) ks)
unlisted_members up [] = none
unlisted_members up (k ∷ ks) = more unknown_member (below up k) _ refl (unlisted_members up ks)

others_listed : (may_stand : List ℕ → Bool) (up : List ℕ) (ms : Members) → AreListed (others may_stand up ms)
others_listed may_stand up ms = unlisted_members up (filter (λ k. not (may_stand k)) (names ms))

pub object_listed : (rows : List Row) → RowsListed rows → FaultsListed (object_faults rows)
object_listed rows all = faults_listed (object_faults rows)
    (λ up d. kind_listed (as_object d) _ up (λ ms. both_listed (others_listed _ up ms) (rows_listed rows all up d)))

pub open_object_listed : (home : List ℕ) (rows : List Row) → RowsListed rows
    → FaultsListed (open_object_faults home rows)
open_object_listed home rows all = faults_listed (open_object_faults home rows)
    (λ up d. kind_listed (as_object d) _ up (λ ms. both_listed (others_listed _ up ms) (rows_listed rows all up d)))

-- ---- members

there_listed : (faults : List ℕ → Data → List FoundFault) → AllListed faults → (up name : List ℕ) (o : Option Data)
    → AreListed (faults_if_there faults up name o)
there_listed faults all up name None = none
there_listed faults all up name (Some d) = all (below up name) d

missing_listed : (faults : List ℕ → Data → List FoundFault) → AllListed faults → (up name : List ℕ) (o : Option Data)
    → AreListed (faults_or_missing faults up name o)
missing_listed faults all up name None = one_fault missing_member up refl
missing_listed faults all up name (Some d) = all (below up name) d

pub optional_listed : (name : List ℕ) (faults : List ℕ → Data → List FoundFault) → FaultsListed faults
    → RowListed (optional name faults)
optional_listed name faults all = row_listed (optional name faults)
    (λ up d. there_listed faults (of_faults faults all) up name (get name d))

pub required_listed : (name : List ℕ) (faults : List ℕ → Data → List FoundFault) → FaultsListed faults
    → RowListed (required_row name faults)
required_listed name faults all = row_listed (required_row name faults)
    (λ up d. missing_listed faults (of_faults faults all) up name (get name d))

pub unread_listed : (names : List (List ℕ)) → RowListed (unread names)
unread_listed names = row_listed (unread names) (λ up d. none)

pub check_listed : (faults : List ℕ → Data → List FoundFault) → AllListed faults → RowListed (then_check faults)
check_listed faults all = row_listed (then_check faults) all

-- ---- choices of members

one_listed : (n : ℕ) (up : List ℕ) → AreListed (unless_one n up)
one_listed zero up = one_fault missing_member up refl
one_listed (suc zero) up = none
one_listed (suc (suc n)) up = one_fault bad_value up refl

pub one_of_listed : (names : List (List ℕ)) → RowListed (one_of names)
one_of_listed names = row_listed (one_of names) (λ up d. one_listed _ up)

abbrev pub NumbersListed : List (List ℕ × ℕ) → Type 0
NumbersListed [] = ⊤
NumbersListed (r ∷ rows) = (is_refusal_number r.1 ≡ true) × NumbersListed rows

chosen_listed : (b : Bool) (number : ℕ) (up : List ℕ) (fs : List FoundFault) → is_refusal_number number ≡ true
    → AreListed fs → AreListed (cond b ((number, up) ∷ fs) fs)
chosen_listed true number up fs is all = more number up fs is all
chosen_listed false number up fs is all = all

numbered_listed : (rows : List (List ℕ × ℕ)) → NumbersListed rows → AllListed (numbered_faults rows)
numbered_listed [] all up d = none
numbered_listed (r ∷ rows) all up d = chosen_listed (is_some (get r.0 d)) r.1 (below up r.0) (numbered_faults rows up d)
    all.0 (numbered_listed rows all.1 up d)

pub none_of_listed : (rows : List (List ℕ × ℕ)) → NumbersListed rows → RowListed (none_of rows)
none_of_listed rows all = row_listed (none_of rows) (numbered_listed rows all)

-- ---- values without parts

pub text_that_listed : (number : ℕ) (test : List ℕ → Bool) → is_refusal_number number ≡ true
    → FaultsListed (text_that number test)
text_that_listed number test is = faults_listed (text_that number test)
    (λ up d. kind_listed (as_str d) _ up (λ text. if_listed _ _ _ is))

pub text_listed : FaultsListed text_faults
text_listed = faults_listed text_faults (λ up d. kind_listed (as_str d) _ up (λ text. none))

whole_in_listed : (low high : ℕ) (up : List ℕ) (o : Option ℕ) → AreListed (whole_in low high up o)
whole_in_listed low high up None = one_fault bad_value up refl
whole_in_listed low high up (Some n) = if_listed _ _ _ refl

pub whole_listed : (low high : ℕ) → FaultsListed (whole_faults low high)
whole_listed low high = faults_listed (whole_faults low high)
    (λ up d. kind_listed (as_number d) _ up (λ n. whole_in_listed low high up (as_u64 n)))

pub empty_listed : FaultsListed empty_faults
empty_listed = faults_listed empty_faults (λ up d. if_listed _ _ _ refl)

pub name_listed : FaultsListed name_faults
name_listed = faults_listed name_faults (λ up d. kind_listed (as_str d) _ up (λ text. if_listed _ _ _ refl))

pub word_listed : {X : Type 0} (named : List ℕ → Option X) → FaultsListed (word_faults named)
word_listed named = faults_listed (word_faults named)
    (λ up d. kind_listed (as_str d) _ up (λ text. if_listed _ _ _ refl))

-- ---- lists

length_listed : (few many least most : ℕ) (up : List ℕ) (n : ℕ) (rest : List FoundFault) → is_refusal_number few ≡ true
    → is_refusal_number many ≡ true → AreListed rest
    → AreListed (by_length few many least most up n rest)
length_listed few many least most up n rest few_is many_is all = go (nat_lt most n) (nat_lt n least)
  where
    go : (a b : Bool) → AreListed (cond a ((many, up) ∷ []) (cond b ((few, up) ∷ []) rest))
    go true b = one_fault many up many_is
    go false true = one_fault few up few_is
    go false false = all

pub list_by_listed : (few many least most : ℕ) (faults : List ℕ → List Data → List FoundFault) → is_refusal_number few
    ≡ true → is_refusal_number many ≡ true
    → ((up : List ℕ) (ds : List Data) → AreListed (faults up ds))
    → FaultsListed (list_faults_by few many least most faults)
list_by_listed few many least most faults few_is many_is all =
    faults_listed (list_faults_by few many least most faults) (λ up d.
    kind_listed (items_in d) _ up (λ ds. length_listed few many least most up (length ds) (faults up ds) few_is many_is
    (all up ds)))

given_list_listed : (least most : ℕ) (faults : List ℕ → List Data → List FoundFault)
    → ((up : List ℕ) (ds : List Data) → AreListed (faults up ds)) → (up name : List ℕ) (o : Option Data)
    → AreListed (faults_of_list least most faults up name o)
given_list_listed least most faults all up name None = if_listed _ _ _ refl
given_list_listed least most faults all up name (Some d) =
    of_faults _ (list_by_listed missing_member too_many_entries least most faults refl refl all) (below up name) d

pub list_row_listed : (least most : ℕ) (name : List ℕ) (faults : List ℕ → List Data → List FoundFault)
    → ((up : List ℕ) (ds : List Data) → AreListed (faults up ds)) → RowListed (list_row least most name faults)
list_row_listed least most name faults all =
    row_listed (list_row least most name faults) (λ up d. given_list_listed least most faults all up name (get name d))

pub items_faults_listed : {X : Type 0} (faults : List ℕ → X → List FoundFault)
    → ((up : List ℕ) (x : X) → AreListed (faults up x)) → (up : List ℕ) (i : ℕ) (xs : List X)
    → AreListed (items_faults faults up i xs)
items_faults_listed faults all up i [] = none
items_faults_listed faults all up i (x ∷ xs) =
    both_listed (all (nth up i) x) (items_faults_listed faults all up (i + 1) xs)

pub items_listed : (least most : ℕ) (name : List ℕ) (faults : List ℕ → Data → List FoundFault) → FaultsListed faults
    → RowListed (items least most name faults)
items_listed least most name faults all =
    list_row_listed least most name _ (λ up ds. items_faults_listed faults (of_faults faults all) up 0 ds)

-- faults of an entry behind others of these names
abbrev pub EntriesListed : (List (List ℕ) → List ℕ → Data → List FoundFault) → Type 0
EntriesListed faults = (earlier : List (List ℕ)) → FaultsListed (faults earlier)

pub entries_faults_listed : (faults : List (List ℕ) → List ℕ → Data → List FoundFault) (name : Data → List ℕ)
    → EntriesListed faults → (earlier : List (List ℕ)) (up : List ℕ) (i : ℕ) (ds : List Data)
    → AreListed (entries_faults faults name earlier up i ds)
entries_faults_listed faults name all earlier up i [] = none
entries_faults_listed faults name all earlier up i (d ∷ ds) =
    both_listed (of_faults (faults earlier) (all earlier) (nth up i) d)
    (entries_faults_listed faults name all (earlier ++ name d ∷ []) up (i + 1) ds)

pub entries_listed : (least most : ℕ) (name : List ℕ) (faults : List (List ℕ) → List ℕ → Data → List FoundFault)
    (name_in : Data → List ℕ) → EntriesListed faults → RowListed (entries least most name faults name_in)
entries_listed least most name faults name_in all =
    list_row_listed least most name _ (λ up ds. entries_faults_listed faults name_in all [] up 0 ds)

pub required_items_listed : (most : ℕ) (name : List ℕ) (faults : List ℕ → Data → List FoundFault) → FaultsListed faults
    → RowListed (required_items most name faults)
required_items_listed most name faults all =
    required_listed name _ (list_by_listed missing_member too_many_entries 0 most _ refl refl
    (λ up ds. items_faults_listed faults (of_faults faults all) up 0 ds))

pub required_entries_listed : (most : ℕ) (name : List ℕ) (faults : List (List ℕ) → List ℕ → Data → List FoundFault)
    (name_in : Data → List ℕ) → EntriesListed faults → RowListed (required_entries most name faults name_in)
required_entries_listed most name faults name_in all =
    required_listed name _ (list_by_listed missing_member too_many_entries 0 most _ refl refl
    (λ up ds. entries_faults_listed faults name_in all [] up 0 ds))

pub name_once_by_listed : (wrong twice : ℕ) → is_refusal_number wrong ≡ true → is_refusal_number twice ≡ true
    → EntriesListed (name_once_by wrong twice)
name_once_by_listed wrong twice wrong_is twice_is earlier =
    faults_listed (name_once_by wrong twice earlier)
    (λ up d. both_listed (of_faults _ (text_that_listed wrong _ wrong_is) up d) (if_listed _ _ _ twice_is))

pub name_once_listed : EntriesListed name_once
name_once_listed earlier = faults_listed (name_once earlier)
    (of_faults _ (name_once_by_listed bad_value name_twice refl refl earlier))

-- ---- references

pub unknown_listed : (known : List (List ℕ)) (up name : List ℕ) → AreListed (unknown known up name)
unknown_listed known up name = if_listed _ _ _ refl

pub unknown_if_there_listed : (known : List (List ℕ)) (up : List ℕ) (o : Option (List ℕ))
    → AreListed (unknown_if_there known up o)
unknown_if_there_listed known up None = none
unknown_if_there_listed known up (Some name) = unknown_listed known up name

pub references_listed : {X : Type 0} (faults : List ℕ → X → List FoundFault)
    → ((up : List ℕ) (x : X) → AreListed (faults up x)) → (up name : List ℕ) (xs : List X)
    → AreListed (member_references faults up name xs)
references_listed faults all up name xs = items_faults_listed faults all (below up name) 0 xs
