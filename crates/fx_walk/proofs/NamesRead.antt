-- What comes of reading a text as a name.
use Rattle.std.proofs.Common.{◌≡◌, ℕ, Bool, true, false, true≢false, not, if◌then◌else◌, List, [], ◌∷◌, Some, Ok, refl, ap, ◌∙◌, sym, arith}
use Rattle.serde_json.specs.Data.{Data}
use Rattle.serde_json.specs.Find.{as_str}
use Rattle.fx_base.specs.Fault.{fault_at}
use Rattle.fx_base.specs.Name.{IsName, is_name}
use Rattle.fx_base.specs.Refusals.{bad_value, want_of_memory}
use Rattle.fx_base.specs.declared.fault.Fault.{Fault}
use Rattle.fx_base.specs.declared.fault.Place.TheVariants as places
use Rattle.fx_walk.specs.Lists.{is_among, name_once_by}
use Rattle.fx_walk.specs.Scalars.{text_of, text_that}
use Rattle.fx_walk.specs.Walk.{FoundFault, Reads, Refuses, fault_if}

-- it is one
pub name_read : (wrong : ℕ) (up : List ℕ) (d : Data) (text name : List ℕ) → as_str d ≡ Some text → name ≡ text
    → IsName text → Reads (text_that wrong is_name up d) (text_of d) (Ok name)
name_read wrong up d text name is same named = rw (is, named.1) (refl, same)

no_name_by : (b : Bool) (wrong : ℕ) (up : List ℕ) (n : ℕ) (refused : Fault) → n
    ≡ (if b then want_of_memory else bad_value) → n ≡ bad_value → Refuses refused ((wrong, up) ∷ [])
    → Refuses refused (fault_if (not b) wrong up)
no_name_by true wrong up n refused is same h = absurd (omega arith)
no_name_by false wrong up n refused is same h = h

-- it is none
pub no_name : (wrong : ℕ) (up : List ℕ) (d : Data) (text : List ℕ) (fault refused : Fault) → as_str d ≡ Some text
    → fault ≡ fault_at (if is_name text then want_of_memory else bad_value) places.None → fault.number ≡ bad_value
    → Refuses refused ((wrong, up) ∷ []) → Refuses refused (text_that wrong is_name up d)
no_name wrong up d text fault refused at is same h =
    rw at (no_name_by (is_name text) wrong up fault.number refused (ap (λ (f : Fault). f.number) is) same h)

no_memory_by : (b : Bool) (fault : Fault) (fs : List FoundFault) → fault
    ≡ fault_at (if b then want_of_memory else bad_value) places.None → (fault.number ≡ bad_value → ⊥) → Refuses fault fs
no_memory_by true fault fs is other = rw is refl
no_memory_by false fault fs is other = absurd (other (ap (λ (f : Fault). f.number) is))

-- there was no memory for it
pub no_memory : (text : List ℕ) (fault : Fault) (fs : List FoundFault) → fault
    ≡ fault_at (if is_name text then want_of_memory else bad_value) places.None → (fault.number ≡ bad_value → ⊥)
    → Refuses fault fs
no_memory text fault fs is other = no_memory_by (is_name text) fault fs is other

there_is : (b new : Bool) → new ≡ not b → new ≡ false → b ≡ true
there_is true new h is = refl
there_is false new h is = absurd (true≢false (sym h ∙ is))

absent_is : (b new : Bool) → new ≡ not b → new ≡ true → b ≡ false
absent_is false new h is = refl
absent_is true new h is = absurd (true≢false (sym is ∙ h))

-- one that was read is put behind earlier ones, if it isn't among them
module _ (wrong twice : ℕ) (earlier : List (List ℕ)) (up : List ℕ) (d : Data) (name : List ℕ) (new : Bool)
    (fine : text_that wrong is_name up d ≡ []) (same : name ≡ text_of d) (added : new ≡ not (is_among earlier name))
  where
    pub read_twice : (e : Fault) → new ≡ false → Refuses e ((twice, up) ∷ [])
        → Refuses e (name_once_by wrong twice earlier up d)
    read_twice e known h =
        let there : is_among earlier (text_of d) ≡ true = ap (λ n. is_among earlier n) (sym same)
        ∙ there_is (is_among earlier name) new added known in
        rw (fine, there) h

    pub read_once : new ≡ true → Reads (name_once_by wrong twice earlier up d) (text_of d) (Ok name)
    read_once unknown =
        let absent : is_among earlier (text_of d) ≡ false = ap (λ n. is_among earlier n) (sym same)
        ∙ absent_is (is_among earlier name) new added unknown in
        (rw (fine, absent) refl, same)
