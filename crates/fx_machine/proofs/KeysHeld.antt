-- The keys of held records, before and after holders take in others.
use Rattle.std.proofs.Common.{inl, inr, get_or, drop, ◌-◌, ◌≡◌, ◌≢◌, ℕ, zero, suc, ◌+◌, ◌<◌, ◌≤◌, ◌==◌, Bool, true, false, cond, List, [], ◌∷◌, ◌++◌, length, option_and_then, Option, Some, None, is_some, refl, sym, ap, ap₂, ◌∙◌, subst, arith, slice_get, slice_set, append_assoc, append-nil, eq-eqb, ne_eqb, le_of_suc-le-suc}
use Rattle.std.proofs.lemmas.Bool.{true≢false}
use Rattle.std.proofs.lemmas.Bool.Decides.{eqb_tells}
use Rattle.std.proofs.lemmas.List.{length-set, at_drop_more}
use Rattle.std.proofs.lemmas.Option.{option_and_then_some, none-some, slice_get-get_or}
use Rattle.fx_base.specs.declared.counts.Counts.{Counts}
use Rattle.fx_base.specs.Counts.{add_counts}
use Rattle.fx_base.specs.Entries.{entry_numbered}
use Rattle.fx_layout.specs.Keys.{Key, same_key}
use Rattle.fx_tables.specs.declared.record.Record.{Record}
use Rattle.fx_tables.specs.declared.holding.Holding.{Holding}
use Rattle.fx_tables.specs.Network.{entries}
use Rattle.fx_machine.specs.States.{with_entry}
use Rattle.fx_machine.specs.Acts.{Choices, records_joining, taken_in}
use Rattle.fx_machine.specs.Holds.{take_in_at, put_in, held_with, hold_all}
use Rattle.fx_machine.specs.Effects.{keys_in, new_keys}
use Rattle.fx_machine.proofs.RecordsTakenIn.{hold_past}

unsome : {A : Type 0} (a b : A) → Some a ≡ Some b → a ≡ b
unsome {A = A} a b h = ap inside h
  where
    inside : Option A → A
    inside None = a
    inside (Some x) = x

-- ---- entries of two lists, one behind the other

pub numbered_left : {A : Type 0} (xs ys : List A) (n : ℕ) → n ≤ length xs → entry_numbered (xs ++ ys) n
    ≡ entry_numbered xs n
numbered_left xs ys zero le = refl
numbered_left [] ys (suc n) le = absurd (omega arith)
numbered_left (x ∷ xs) ys (suc zero) le = refl
numbered_left (x ∷ xs) ys (suc (suc n)) le = numbered_left xs ys (suc n) (le_of_suc-le-suc le)

pub numbered_right : {A : Type 0} (xs ys : List A) (n m : ℕ) → n ≡ length xs + suc m → entry_numbered (xs ++ ys) n
    ≡ entry_numbered ys (suc m)
numbered_right [] ys n m e =
    let e' : n ≡ suc m = omega (arith, e) in ap (entry_numbered ys) e'
numbered_right (x ∷ xs) ys zero m e = absurd (omega (arith, e))
numbered_right (x ∷ xs) ys (suc zero) m e = absurd (omega (arith, e))
numbered_right (x ∷ xs) ys (suc (suc n)) m e = numbered_right xs ys (suc n) m (omega (arith, e))

-- ---- keys of records

pub length_keys : (rs : List Record) → length (keys_in rs) ≡ length rs
length_keys [] = refl
length_keys (r ∷ rs) = ap suc (length_keys rs)

abbrev pub key_there : Option Record → Option Key
key_there None = None
key_there (Some r) = Some r.key

pub keys_numbered : (rs : List Record) (n : ℕ) → entry_numbered (keys_in rs) n ≡ key_there (entry_numbered rs n)
keys_numbered rs zero = refl
keys_numbered [] (suc n) = refl
keys_numbered (r ∷ rs) (suc zero) = refl
keys_numbered (r ∷ rs) (suc (suc n)) = keys_numbered rs (suc n)

keys_last : (rs : List Record) (r : Record) → keys_in (rs ++ r ∷ []) ≡ keys_in rs ++ r.key ∷ []
keys_last [] r = refl
keys_last (x ∷ rs) r = ap (λ (ks : List Key). x.key ∷ ks) (keys_last rs r)

keys_with : (rs : List Record) (n : ℕ) (old new : Record) → entry_numbered rs n ≡ Some old → new.key ≡ old.key
    → keys_in (with_entry rs n new) ≡ keys_in rs
keys_with rs zero old new there same = refl
keys_with [] (suc n) old new there same = refl
keys_with (r ∷ rs) (suc zero) old new there same =
    ap (λ (k : Key). k ∷ keys_in rs) (same ∙ ap (λ (x : Record). x.key) (sym (unsome r old there)))
keys_with (r ∷ rs) (suc (suc n)) old new there same =
    ap (λ (ks : List Key). r.key ∷ ks) (keys_with rs (suc n) old new there same)

-- ---- at each holder

abbrev pub keys_at : List (List Record) → ℕ → List Key
keys_at held k = keys_in (entries (slice_get held k))

same_place : (held : List (List Record)) (k : ℕ) (rs new : List Record) (added : List Key) → slice_get held k ≡ Some rs
    → keys_in new ≡ keys_in rs ++ added → keys_at (slice_set held k new) k ≡ keys_at held k ++ added
same_place [] k rs new added there is = absurd (none-some rs there)
same_place (q ∷ held) zero rs new added there is = is
    ∙ ap (λ (x : List Record). keys_in x ++ added) (sym (unsome q rs there))
same_place (q ∷ held) (suc k) rs new added there is = same_place held k rs new added there is

other_place : (held : List (List Record)) (k j : ℕ) (new : List Record) → k ≢ j → keys_at (slice_set held k new) j
    ≡ keys_at held j
other_place [] k j new ne = refl
other_place (q ∷ held) zero zero new ne = absurd (ne refl)
other_place (q ∷ held) zero (suc j) new ne = refl
other_place (q ∷ held) (suc k) zero new ne = refl
other_place (q ∷ held) (suc k) (suc j) new ne = other_place held k j new (λ e. ne (ap suc e))

-- a list with more keys behind those that it had
abbrev Adds : List (List Record) → ℕ → List Record → List (List Record) → List Key → Type 0
Adds held holder rs now added = (new : List Record) × (now ≡ slice_set held holder new)
    × (keys_in new ≡ keys_in rs ++ added)

abbrev added_by : Holding → Option ℕ → List Key
added_by h None = h.key ∷ []
added_by h (Some n) = []

joined : (held : List (List Record)) (holder : ℕ) (rs : List Record) (n : ℕ) (r : Record) (o : Option Record)
    (now : List (List Record)) → entry_numbered rs n ≡ o → put_in held holder (records_joining o rs n r) ≡ Some now
    → Adds held holder rs now []
joined held holder rs n r None now there made = absurd (none-some now made)
joined held holder rs n r (Some old) now there made =
    let new : Record = record { key = old.key; counts = add_counts old.counts r.counts } in
    elim (same_key old.key r.key) as (λ b. put_in held holder (cond b (Some (with_entry rs n new)) None) ≡ Some now
    → Adds held holder rs now []) [
      | true ↦ λ e. (
        with_entry rs n new,
        sym (unsome (slice_set held holder (with_entry rs n new)) now e),
        keys_with rs
            n old new there refl ∙ sym (append-nil (keys_in rs)),
      )
      | false ↦ λ e. absurd (none-some now e)
    ] made

taken : (held : List (List Record)) (counts : Counts) (h : Holding) (rs : List Record) (choice : Option ℕ)
    (now : List (List Record)) → put_in held h.holder (taken_in rs choice (record { key = h.key; counts = counts }))
    ≡ Some now → Adds held h.holder rs now (added_by h choice)
taken held counts h rs None now made =
    let r : Record = record { key = h.key; counts = counts } in
    (rs ++ r ∷ [], sym (unsome (slice_set held h.holder (rs ++ r ∷ [])) now made), keys_last rs r)
taken held counts h rs (Some n) now made =
    joined held h.holder rs n (record { key = h.key; counts = counts }) (entry_numbered rs n) now refl made

abbrev FoundAdds : List (List Record) → Holding → Option ℕ → List (List Record) → Type 0
FoundAdds held h choice now = (rs : List Record) × (slice_get held h.holder ≡ Some rs)
    × Adds held h.holder rs now (added_by h choice)

found : (held : List (List Record)) (counts : Counts) (h : Holding) (choice : Option ℕ) (o : Option (List Record))
    (now : List (List Record)) → slice_get held h.holder ≡ o
    → take_in_at o held h.holder (record { key = h.key; counts = counts }) choice ≡ Some now
    → FoundAdds held h choice now
found held counts h choice None now there made = absurd (none-some now made)
found held counts h choice (Some rs) now there made = (rs, there, taken held counts h rs choice now made)

-- the keys that one holder's choice adds at a place
abbrev added_at : ℕ → Holding → Option ℕ → List Key
added_at k h choice = new_keys k (h ∷ []) (choice ∷ [])

here_added : (h : Holding) (choice : Option ℕ) → added_at h.holder h choice ≡ added_by h choice
here_added h None = ap (λ b. cond b (h.key ∷ []) []) (eq-eqb h.holder h.holder refl)
here_added h (Some n) = refl

else_added : (k : ℕ) (h : Holding) (choice : Option ℕ) → h.holder ≢ k → added_at k h choice ≡ []
else_added k h None ne = ap (λ b. cond b (h.key ∷ []) []) (ne_eqb h.holder k ne)
else_added k h (Some n) ne = refl

pub one_taken : (held : List (List Record)) (counts : Counts) (h : Holding) (choice : Option ℕ)
    (now : List (List Record)) (k : ℕ) → held_with held counts h choice ≡ Some now → keys_at now k ≡ keys_at held k
    ++ added_at k h choice
one_taken held counts h choice now k made =
    let f = found held counts h choice (slice_get held h.holder) now refl made in
    let a = f.2 in
    elim (eqb_tells h.holder k) [
      | inl same ↦ subst (λ (j : ℕ). keys_at now j ≡ keys_at held j ++ added_at j h choice) same.1
          (ap (λ (x : List (List Record)). keys_at x h.holder) a.1
          ∙ same_place held h.holder f.0 a.0 (added_by h choice) f.1 a.2
          ∙ ap (λ (ks : List Key). keys_at held h.holder ++ ks) (sym (here_added h choice)))
      | inr other ↦ ap (λ (x : List (List Record)). keys_at x k) a.1 ∙ other_place held h.holder k a.0 other.1
          ∙ sym (append-nil (keys_at held k)) ∙ ap (λ (ks : List Key). keys_at held k ++ ks)
          (sym (else_added k h choice other.1))
    ]

-- ---- several holders

first_added : (k : ℕ) (h : Holding) (choice : Option ℕ) (hs : List Holding) (cs : Choices) → added_at k h choice
    ++ new_keys k hs cs ≡ new_keys k (h ∷ hs) (choice ∷ cs)
first_added k h None hs cs =
    elim (h.holder == k) as (λ b. cond b (h.key ∷ []) [] ++ new_keys k hs cs
    ≡ cond b (h.key ∷ new_keys k hs cs) (new_keys k hs cs)) [
      | true ↦ refl
      | false ↦ refl
    ]
first_added k h (Some n) hs cs = refl

pub all_taken : (counts : Counts) (hs : List Holding) (held : List (List Record)) (cs : Choices)
    (now : List (List Record)) (k : ℕ) → hold_all counts hs held cs ≡ Some now → keys_at now k ≡ keys_at held k
    ++ new_keys k hs cs
all_taken counts [] held [] now k made = ap (λ (x : List (List Record)). keys_at x k) (sym (unsome held now made))
    ∙ sym (append-nil (keys_at held k))
all_taken counts [] held (c ∷ cs) now k made = absurd (none-some now made)
all_taken counts (h ∷ hs) held [] now k made = absurd (none-some now made)
all_taken counts (h ∷ hs) held (c ∷ cs) now k made =
    option_and_then_some (λ (x : List (List Record)). hold_all counts hs x cs) (held_with held counts h c) now made
    (λ (mid : List (List Record)) one rest.
    all_taken counts hs mid cs now k rest ∙ ap (λ (ks : List Key). ks ++ new_keys k hs cs)
    (one_taken held counts h c mid k one) ∙ append_assoc (keys_at held k) (added_at k h c) (new_keys k hs cs)
    ∙ ap (λ (ks : List Key). keys_at held k ++ ks) (first_added k h c hs cs))

length_one : (held : List (List Record)) (counts : Counts) (h : Holding) (choice : Option ℕ) (now : List (List Record))
    → held_with held counts h choice ≡ Some now → length now ≡ length held
length_one held counts h choice now made =
    let a = (found held counts h choice (slice_get held h.holder) now refl made).2 in
    ap (λ (x : List (List Record)). length x) a.1 ∙ length-set held h.holder a.0

pub length_all : (counts : Counts) (hs : List Holding) (held : List (List Record)) (cs : Choices)
    (now : List (List Record)) → hold_all counts hs held cs ≡ Some now → length now ≡ length held
length_all counts [] held [] now made = ap (λ (x : List (List Record)). length x) (sym (unsome held now made))
length_all counts [] held (c ∷ cs) now made = absurd (none-some now made)
length_all counts (h ∷ hs) held [] now made = absurd (none-some now made)
length_all counts (h ∷ hs) held (c ∷ cs) now made =
    option_and_then_some (λ (x : List (List Record)). hold_all counts hs x cs) (held_with held counts h c) now made
    (λ (mid : List (List Record)) one rest. length_all counts hs mid cs now rest
    ∙ length_one held counts h c mid one)

-- one holder more
pub one_more : (counts : Counts) (hs : List Holding) (held : List (List Record)) (cs : Choices)
    (now next : List (List Record)) (h : Holding) (choice : Option ℕ) → hold_all counts hs held cs ≡ Some now
    → held_with now counts h choice ≡ Some next → hold_all counts (hs ++ h ∷ []) held (cs ++ choice ∷ []) ≡ Some next
one_more counts [] held [] now next h choice made more =
    ap (option_and_then (λ (x : List (List Record)). hold_all counts [] x []))
    (ap (λ (x : List (List Record)). held_with x counts h choice) (unsome held now made) ∙ more)
one_more counts [] held (c ∷ cs) now next h choice made more = absurd (none-some now made)
one_more counts (x ∷ hs) held [] now next h choice made more = absurd (none-some now made)
one_more counts (x ∷ hs) held (c ∷ cs) now next h choice made more =
    option_and_then_some (λ (y : List (List Record)). hold_all counts hs y cs) (held_with held counts x c) now made
    (λ (mid : List (List Record)) one rest.
    ap (option_and_then (λ (y : List (List Record)). hold_all counts (hs ++ h ∷ []) y (cs ++ choice ∷ []))) one
    ∙ one_more counts hs mid cs now next h choice rest more)

-- ---- whether one can take in a record

-- whether the record of a key is joined by one of another
abbrev pub is_joined : Option Key → Key → Bool
is_joined None key = false
is_joined (Some k) key = same_key k key

joining : (now : List (List Record)) (holder : ℕ) (rs : List Record) (n : ℕ) (r : Record) (o : Option Record)
    → is_some (put_in now holder (records_joining o rs n r)) ≡ is_joined (key_there o) r.key
joining now holder rs n r None = refl
joining now holder rs n r (Some old) =
    elim (same_key old.key r.key) as (λ b. is_some
    (put_in now holder (cond b (Some (with_entry rs n
    (record { key = old.key; counts = add_counts old.counts r.counts }))) None)) ≡ b) [
      | true ↦ refl
      | false ↦ refl
    ]

pub can_join : (now : List (List Record)) (counts : Counts) (h : Holding) (n : ℕ) → h.holder < length now
    → is_some (held_with now counts h (Some n)) ≡ is_joined (entry_numbered (keys_at now h.holder) n) h.key
can_join now counts h n lt =
    let rs = get_or now h.holder [] in
    let there : slice_get now h.holder ≡ Some rs = slice_get-get_or now h.holder [] lt in
    let r : Record = record { key = h.key; counts = counts } in
    ap (λ (o : Option (List Record)). is_some (take_in_at o now h.holder r (Some n))) there
    ∙ joining now h.holder rs n r (entry_numbered rs n)
    ∙ ap (λ (o : Option Key). is_joined o h.key) (sym (keys_numbered rs n))
    ∙ ap (λ (o : Option (List Record)). is_joined (entry_numbered (keys_in (entries o)) n) h.key) (sym there)

pub can_add : (now : List (List Record)) (counts : Counts) (h : Holding) → h.holder < length now
    → is_some (held_with now counts h None) ≡ true
can_add now counts h lt =
    ap (λ (o : Option (List Record)). is_some
    (take_in_at o now h.holder (record { key = h.key; counts = counts }) None))
    (slice_get-get_or now h.holder [] lt)

-- ---- a new record, by its number among those of a holder

pub past_new : (holder : ℕ) (hs hs' : List Holding) (cs cs' : Choices) (h : Holding) (choice : Option ℕ) (n m : ℕ) → hs
    ≡ h ∷ hs' → cs ≡ choice ∷ cs' → is_some choice ≡ false → h.holder ≡ holder → 1 ≤ n → n ≢ 1 → m ≡ n - 1
    → entry_numbered (new_keys holder hs cs) n ≡ entry_numbered (new_keys holder hs' cs') m
past_new holder hs hs' cs cs' h choice n m first chosen is_new here some more less =
    ap₂ (λ (xs : List Holding) (ys : Choices). entry_numbered (new_keys holder xs ys) n) first chosen
    ∙ at_choice choice is_new
  where
    next : (n m : ℕ) → 1 ≤ n → n ≢ 1 → m ≡ n - 1 → entry_numbered (h.key ∷ new_keys holder hs' cs') n
        ≡ entry_numbered (new_keys holder hs' cs') m
    next zero m some more less = absurd (omega arith)
    next (suc zero) m some more less = absurd (more refl)
    next (suc (suc k)) m some more less =
        let e : suc k ≡ m = omega (arith, less) in ap (entry_numbered (new_keys holder hs' cs')) e

    at_choice : (c : Option ℕ) → is_some c ≡ false → entry_numbered (new_keys holder (h ∷ hs') (c ∷ cs')) n
        ≡ entry_numbered (new_keys holder hs' cs') m
    at_choice None e = ap (λ b. entry_numbered (cond b (h.key ∷ new_keys holder hs' cs') (new_keys holder hs' cs')) n)
        (eq-eqb h.holder holder here) ∙ next n m some more less
    at_choice (Some x) e = absurd (true≢false e)

pub past_joined : (holder : ℕ) (hs hs' : List Holding) (cs cs' : Choices) (h : Holding) (choice : Option ℕ) (n : ℕ) → hs
    ≡ h ∷ hs' → cs ≡ choice ∷ cs' → is_some choice ≡ true → entry_numbered (new_keys holder hs cs) n
    ≡ entry_numbered (new_keys holder hs' cs') n
past_joined holder hs hs' cs cs' h choice n first chosen joins =
    ap₂ (λ (xs : List Holding) (ys : Choices). entry_numbered (new_keys holder xs ys) n) first chosen
    ∙ at_choice choice joins
  where
    at_choice : (c : Option ℕ) → is_some c ≡ true → entry_numbered (new_keys holder (h ∷ hs') (c ∷ cs')) n
        ≡ entry_numbered (new_keys holder hs' cs') n
    at_choice None e = absurd (true≢false (sym e))
    at_choice (Some x) e = refl

pub past_joined_at : (holder : ℕ) (hs : List Holding) (k : ℕ) (cs cs' : Choices) (choice : Option ℕ) (n : ℕ) → k
    < length hs → cs ≡ choice ∷ cs' → is_some choice ≡ true → entry_numbered (new_keys holder (drop k hs) cs) n
    ≡ entry_numbered (new_keys holder (drop (k + 1) hs) cs') n
past_joined_at holder [] k cs cs' choice n lt chosen joins = absurd (omega arith)
past_joined_at holder (h ∷ hs) k cs cs' choice n lt chosen joins =
    past_joined holder (drop k (h ∷ hs)) (drop (k + 1) (h ∷ hs)) cs cs' (get_or (h ∷ hs) k h) choice n
    (at_drop_more (λ (rest : List Holding). rest) (h ∷ hs) k h lt) chosen joins

pub past_other : (holder : ℕ) (hs hs' : List Holding) (cs cs' : Choices) (h : Holding) (choice : Option ℕ) (n : ℕ) → hs
    ≡ h ∷ hs' → cs ≡ choice ∷ cs' → h.holder ≢ holder → entry_numbered (new_keys holder hs cs) n
    ≡ entry_numbered (new_keys holder hs' cs') n
past_other holder hs hs' cs cs' h choice n first chosen other =
    ap₂ (λ (xs : List Holding) (ys : Choices). entry_numbered (new_keys holder xs ys) n) first chosen ∙ at_choice choice
  where
    at_choice : (c : Option ℕ) → entry_numbered (new_keys holder (h ∷ hs') (c ∷ cs')) n
        ≡ entry_numbered (new_keys holder hs' cs') n
    at_choice None = ap (λ b. entry_numbered (cond b (h.key ∷ new_keys holder hs' cs') (new_keys holder hs' cs')) n)
        (ne_eqb h.holder holder other)
    at_choice (Some x) = refl

-- ---- some or none

pub none_where_false : {A : Type 0} (o : Option A) → is_some o ≡ false → o ≡ None
none_where_false None e = refl
none_where_false (Some x) e = absurd (true≢false e)

pub some_where_true : {A : Type 0} (o : Option A) → is_some o ≡ true → (x : A) × (o ≡ Some x)
some_where_true None e = absurd (true≢false (sym e))
some_where_true (Some x) e = (x, refl)

-- ---- the key at a position, behind what was taken in

pub left_key : (rs : List Record) (keys : List Key) (n : ℕ) (o : Option Record) → n ≤ length rs → o
    ≡ entry_numbered rs n → key_there o ≡ entry_numbered (keys_in rs ++ keys) n
left_key rs keys n o le e =
    let le' : n ≤ length (keys_in rs) = omega (arith, le, length_keys rs) in
    ap key_there e ∙ sym (keys_numbered rs n) ∙ sym (numbered_left (keys_in rs) keys n le')

pub right_key : (rs : List Record) (keys : List Key) (n : ℕ) → length rs < n → entry_numbered keys (n - length rs)
    ≡ entry_numbered (keys_in rs ++ keys) n
right_key rs keys n lt =
    let m = n - length rs - 1 in
    let e : n - length rs ≡ suc m = omega (arith, lt) in
    let e' : n ≡ length (keys_in rs) + suc m = omega (arith, lt, length_keys rs) in
    ap (entry_numbered keys) e ∙ sym (numbered_right (keys_in rs) keys n m e')

pub joins_behind : (counts : Counts) (before : List Holding) (held : List (List Record)) (chosen : Choices)
    (now : List (List Record)) (h : Holding) (n : ℕ) (o : Option Key) → hold_all counts before held chosen ≡ Some now
    → h.holder < length held → o ≡ entry_numbered (keys_at held h.holder ++ new_keys h.holder before chosen) n
    → is_joined o h.key ≡ is_some (held_with now counts h (Some n))
joins_behind counts before held chosen now h n o made lt e =
    let lt' : h.holder < length now = omega (arith, lt, length_all counts before held chosen now made) in
    ap (λ (p : Option Key). is_joined p h.key)
    (e ∙ ap (λ (ks : List Key). entry_numbered ks n) (sym (all_taken counts before held chosen now h.holder made)))
    ∙ sym (can_join now counts h n lt')

pub adds_behind : (counts : Counts) (before : List Holding) (held : List (List Record)) (chosen : Choices)
    (now : List (List Record)) (h : Holding) → hold_all counts before held chosen ≡ Some now → h.holder < length held
    → true ≡ is_some (held_with now counts h None)
adds_behind counts before held chosen now h made lt =
    let lt' : h.holder < length now = omega (arith, lt, length_all counts before held chosen now made) in
    sym (can_add now counts h lt')

pub past_behind : (counts : Counts) (before : List Holding) (held : List (List Record)) (chosen : Choices)
    (now : List (List Record)) (h : Holding) (choice : Option ℕ) → hold_all counts before held chosen ≡ Some now
    → length held ≤ h.holder → false ≡ is_some (held_with now counts h choice)
past_behind counts before held chosen now h choice made past =
    let past' : length now ≤ h.holder = omega (arith, past, length_all counts before held chosen now made) in
    ap (λ (o : Option (List (List Record))). is_some o) (sym (hold_past now counts h choice past'))
