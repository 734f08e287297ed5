-- A walk through a document: all its faults, in the order of the walk, and its meaning if it has none.
use Rattle.std.specs.Prelude.{◌≡◌, ℕ, List, [], ◌∷◌, ◌++◌, Option, Some, None, Result, Ok, Err, string_bytes, Bool, true, false, not, ◌&&◌, ◌||◌, ◌==◌, map}
use Rattle.std.specs.List.{list_any, filter, flat_map, before_first}
use Rattle.std.specs.Option.{unwrap_or}
use Rattle.std.specs.Str.{bytes_eq}
use Rattle.serde_json.specs.Data.{Data, null, Members, no_members, member}
use Rattle.serde_json.specs.Find.{get, as_object}
use Rattle.fx_walk.specs.Pointer.{below}
use Rattle.fx_base.specs.declared.fault.Fault.{Fault}
use Rattle.fx_base.specs.declared.fault.Place.{Place}
use Rattle.fx_base.specs.declared.fault.Place.TheVariants as places
use Rattle.fx_base.specs.Refusals.{missing_member, unknown_member, want_of_memory, wrong_kind}

-- ---- faults and answers

-- a refusal number, and the pointer to the faulty value
abbrev pub FoundFault : Type 0
FoundFault = ℕ × List ℕ

abbrev pub first : List FoundFault → Option FoundFault
first [] = None
first (f ∷ fs) = Some f

-- a refusal is the first of these faults, or out of memory
abbrev pub refuses : ℕ → Place → List FoundFault → Type 0
refuses n places.None fs = n ≡ want_of_memory
refuses n (places.Text s) fs = first fs ≡ Some (n, string_bytes s)
refuses n (places.Line l) fs = ⊥
refuses n (places.Octet o) fs = ⊥

abbrev pub Refuses : Fault → List FoundFault → Type 0
Refuses e fs = refuses e.number e.place fs

-- What a reader returns, given all faults and the meaning: the meaning if there is no fault,
-- otherwise the first fault.
abbrev pub Reads : {X : Type 0} → List FoundFault → X → Result X Fault → Type 0
Reads fs meaning (Ok x) = (fs ≡ []) × (x ≡ meaning)
Reads fs meaning (Err e) = Refuses e fs

-- ---- values

-- the faults of a value of the required kind; a value of another kind is a fault itself
abbrev pub of_kind : {X : Type 0} → Option X → (X → List FoundFault) → List ℕ → List FoundFault
of_kind None faults up = (wrong_kind, up) ∷ []
of_kind (Some x) faults up = faults x

-- a fault if a test holds
abbrev pub fault_if : Bool → ℕ → List ℕ → List FoundFault
fault_if true n up = (n, up) ∷ []
fault_if false n up = []

-- ---- members

-- an object's member of this name; a missing member counts as null
abbrev pub member_of : List ℕ → Data → Data
member_of name d = unwrap_or (get name d) null

-- A row of the table that defines an object: the members that it covers, and their faults in an object at a pointer.
pub record Row : Type 0 where
  pub names : List (List ℕ)
  pub faults : List ℕ → Data → List FoundFault

abbrev pub faults_if_there : (List ℕ → Data → List FoundFault) → List ℕ → List ℕ → Option Data → List FoundFault
faults_if_there faults up name None = []
faults_if_there faults up name (Some d) = faults (below up name) d

abbrev pub faults_or_missing : (List ℕ → Data → List FoundFault) → List ℕ → List ℕ → Option Data → List FoundFault
faults_or_missing faults up name None = (missing_member, up) ∷ []
faults_or_missing faults up name (Some d) = faults (below up name) d

-- an optional member
abbrev pub optional : List ℕ → (List ℕ → Data → List FoundFault) → Row
optional name faults = record { names = name ∷ []; faults = λ up d. faults_if_there faults up name (get name d) }

-- a required member
abbrev pub required_row : List ℕ → (List ℕ → Data → List FoundFault) → Row
required_row name faults = record { names = name ∷ []; faults = λ up d. faults_or_missing faults up name (get name d) }

-- members that are ignored
abbrev pub unread : List (List ℕ) → Row
unread names = record { names = names; faults = λ up d. [] }

-- a check that runs once the members of the rows above are read
abbrev pub then_check : (List ℕ → Data → List FoundFault) → Row
then_check faults = record { names = []; faults = faults }

-- ---- objects

abbrev pub row_faults : List Row → List ℕ → Data → List FoundFault
row_faults [] up d = []
row_faults (row ∷ rows) up d = row.faults up d ++ row_faults rows up d

abbrev pub listed_in : List Row → List (List ℕ)
listed_in rows = flat_map (λ row. row.names) rows

-- the names of an object's members, in byte order
abbrev pub names : Members → List (List ℕ)
names no_members = []
names (member k d ms) = k ∷ names ms

abbrev pub is_listed : List (List ℕ) → List ℕ → Bool
is_listed listed name = list_any (λ t. bytes_eq t name) listed

-- the members for which a test doesn't hold, as faults
abbrev pub others : (List ℕ → Bool) → List ℕ → Members → List FoundFault
others may_stand up ms = map (λ k. (unknown_member, below up k)) (filter (λ k. not (may_stand k)) (names ms))

-- the faults of an object: the members that no row lists, then the faults of the rows in order
abbrev pub object_faults : List Row → List ℕ → Data → List FoundFault
object_faults rows up d = of_kind (as_object d)
    (λ ms. others (is_listed (listed_in rows)) up ms ++ row_faults rows up d) up

-- The name of a member that another module defines (RFC 7951, section 4): the text before the first colon is the
-- name of a module other than this one.
abbrev pub is_foreign : List ℕ → List ℕ → Bool
is_foreign home name = list_any (λ b. b == 58) name && (not (bytes_eq (before_first (λ b. b == 58) name) [])
    && not (bytes_eq (before_first (λ b. b == 58) name) home))

-- the faults of an object of this module that may also have members of other modules
abbrev pub open_object_faults : List ℕ → List Row → List ℕ → Data → List FoundFault
open_object_faults home rows up d = of_kind (as_object d)
    (λ ms. others (λ k. is_listed (listed_in rows) k || is_foreign home k) up ms ++ row_faults rows up d) up

-- The result of checking an object's kind and its unlisted members.
abbrev pub IsObject : (List Row → List ℕ → Data → List FoundFault) → List (List ℕ) → List ℕ → Data
    → Result (Unit {0}) Fault → Type 0
IsObject faults listed up d (Ok x) = (rows : List Row) → listed_in rows ≡ listed → faults rows up d
    ≡ row_faults rows up d
IsObject faults listed up d (Err e) = (rows : List Row) → listed_in rows ≡ listed → Refuses e (faults rows up d)
