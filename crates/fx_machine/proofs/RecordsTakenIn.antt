-- Records taken in by holders, and taken back.
use Rattle.std.proofs.Common.{◌≡◌, ◌≢◌, ℕ, zero, suc, ◌+◌, ◌-◌, ◌<◌, ◌≤◌, true, false, cond, List, [], ◌∷◌, ◌++◌, length, take, drop, option_and_then, Option, Some, None, refl, sym, ap, ◌∙◌, subst, arith, slice_get, slice_set, get_or, add-one, le_of_suc-le-suc}
use Rattle.std.proofs.lemmas.List.{at_drop_more, set-get_or}
use Rattle.std.proofs.lemmas.Option.{slice_get-get_or, slice_get_past}
use Rattle.fx_base.specs.declared.counts.Counts.{Counts}
use Rattle.fx_base.specs.Counts.{add_counts}
use Rattle.fx_layout.specs.Keys.{Key, same_key}
use Rattle.fx_tables.specs.declared.record.Record.{Record}
use Rattle.fx_tables.specs.declared.holding.Holding.{Holding}
use Rattle.fx_machine.specs.declared.holding.Joined.{Joined}
use Rattle.fx_machine.specs.declared.holding.Taking.{Taking}
use Rattle.fx_base.specs.Entries.{entry_numbered}
use Rattle.fx_machine.specs.Acts.{Choices, records_joining, taken_in}
use Rattle.fx_machine.specs.Holds.{take_in_at, put_in, held_with, hold_all, with_counts, given_back, back_at, undone}

-- ---- joining

abbrev counted : Record → Counts → Record
counted r counts = record { key = r.key; counts = counts }

set_back : (rs : List Record) (k : ℕ) (old : Record) (new : Counts) → k < length rs → old ≡ get_or rs k old
    → with_counts (slice_set rs k (counted old new)) k old.counts ≡ rs
set_back [] k old new lt e = refl
set_back (r ∷ rs) zero old new lt e = ap (λ (x : Record). x ∷ rs) e
set_back (r ∷ rs) (suc k) old new lt e =
    ap (λ (xs : List Record). r ∷ xs) (set_back rs k old new (le_of_suc-le-suc lt) e)

set_same : (rs : List Record) (k : ℕ) (old : Record) → old ≡ get_or rs k old → slice_set rs k old ≡ rs
set_same [] k old e = refl
set_same (r ∷ rs) zero old e = ap (λ (x : Record). x ∷ rs) e
set_same (r ∷ rs) (suc k) old e = ap (λ (xs : List Record). r ∷ xs) (set_same rs k old e)

abbrev Refused : List Record → ℕ → ℕ → Record → Record → Type 0
Refused rs n k r old = (records_joining (entry_numbered rs n) rs n r ≡ None)
    × (slice_set rs k (counted old old.counts) ≡ rs)

pub join_refused : (rs : List Record) (n : ℕ) (r old : Record) → n ≢ 0 → n ≤ length rs → old ≡ get_or rs (n - 1) old
    → same_key old.key r.key ≡ false → Refused rs n (n - 1) r old
join_refused rs zero r old ne le e differ = absurd (ne refl)
join_refused rs (suc k) r old ne le e differ =
    let same : suc k - 1 ≡ k = omega arith in
    let at : old ≡ get_or rs k old = subst (λ m. old ≡ get_or rs m old) same e in
    let found : slice_get rs k ≡ Some old = slice_get-get_or rs k old le ∙ ap Some (sym at) in
    let first : records_joining (slice_get rs k) rs (suc k) r ≡ None =
    ap (λ o. records_joining o rs (suc k) r) found
    ∙ ap (λ b. cond b (Some (slice_set rs k (record { key = old.key; counts = add_counts old.counts r.counts })))
    None) differ in
    (first, subst (λ m. slice_set rs m old ≡ rs) (sym same) (set_same rs k old at))

abbrev Made : List Record → ℕ → ℕ → Record → Record → Counts → Type 0
Made rs n k r old new = (records_joining (entry_numbered rs n) rs n r ≡ Some (slice_set rs k (counted old new)))
    × (with_counts (slice_set rs k (counted old new)) k old.counts ≡ rs)

pub join_made : (rs : List Record) (n : ℕ) (r old : Record) (new : Counts) → n ≢ 0 → n ≤ length rs → old
    ≡ get_or rs (n - 1) old → same_key old.key r.key ≡ true → new ≡ add_counts old.counts r.counts
    → Made rs n (n - 1) r old new
join_made rs zero r old new ne le e agree sum = absurd (ne refl)
join_made rs (suc k) r old new ne le e agree sum =
    let same : suc k - 1 ≡ k = omega arith in
    let at : old ≡ get_or rs k old = subst (λ m. old ≡ get_or rs m old) same e in
    let found : slice_get rs k ≡ Some old = slice_get-get_or rs k old le ∙ ap Some (sym at) in
    let first : records_joining (slice_get rs k) rs (suc k) r ≡ Some (slice_set rs k (counted old new)) =
    ap (λ o. records_joining o rs (suc k) r) found
    ∙ ap (λ b. cond b (Some (slice_set rs k (record { key = old.key; counts = add_counts old.counts r.counts })))
    None) agree ∙ ap (λ (x : Counts). Some (slice_set rs k (counted old x))) (sym sum) in
    subst (λ m. Made rs (suc k) m r old new) (sym same) (first, set_back rs k old new le at)

pub counts_set : (rs : List Record) (k : ℕ) (old : Record) (counts : Counts) → k < length rs → old ≡ get_or rs k old
    → slice_set rs k (counted old counts) ≡ with_counts rs k counts
counts_set [] k old counts lt e = refl
counts_set (r ∷ rs) zero old counts lt e = ap (λ (x : Record). counted x counts ∷ rs) e
counts_set (r ∷ rs) (suc k) old counts lt e =
    ap (λ (xs : List Record). r ∷ xs) (counts_set rs k old counts (le_of_suc-le-suc lt) e)

pub counts_past : (rs : List Record) (k : ℕ) (counts : Counts) → length rs ≤ k → rs ≡ with_counts rs k counts
counts_past [] k counts le = refl
counts_past (r ∷ rs) zero counts le = absurd (omega arith)
counts_past (r ∷ rs) (suc k) counts le =
    ap (λ (xs : List Record). r ∷ xs) (counts_past rs k counts (le_of_suc-le-suc le))

-- ---- holders

pub back_set : (rss : List (List Record)) (n : ℕ) (old new : List Record) (j : Option Joined) → n < length rss → old
    ≡ get_or rss n old → new ≡ given_back j old → slice_set rss n new ≡ back_at rss n j
back_set [] n old new j lt e is = refl
back_set (rs ∷ rss) zero old new j lt e is = ap (λ (x : List Record). x ∷ rss) (is ∙ ap (given_back j) e)
back_set (rs ∷ rss) (suc n) old new j lt e is =
    ap (λ (xs : List (List Record)). rs ∷ xs) (back_set rss n old new j (le_of_suc-le-suc lt) e is)

pub back_past : (rss : List (List Record)) (n : ℕ) (j : Option Joined) → length rss ≤ n → rss ≡ back_at rss n j
back_past [] n j le = refl
back_past (rs ∷ rss) zero j le = absurd (omega arith)
back_past (rs ∷ rss) (suc n) j le = ap (λ (xs : List (List Record)). rs ∷ xs) (back_past rss n j (le_of_suc-le-suc le))

back_of_set : (rss : List (List Record)) (n : ℕ) (old new : List Record) (j : Option Joined) → n < length rss → old
    ≡ get_or rss n old → given_back j new ≡ old → back_at (slice_set rss n new) n j ≡ rss
back_of_set [] n old new j lt e is = refl
back_of_set (rs ∷ rss) zero old new j lt e is = ap (λ (x : List Record). x ∷ rss) (is ∙ e)
back_of_set (rs ∷ rss) (suc n) old new j lt e is =
    ap (λ (xs : List (List Record)). rs ∷ xs) (back_of_set rss n old new j (le_of_suc-le-suc lt) e is)

pub hold_made : (held : List (List Record)) (counts : Counts) (h : Holding) (choice : Option ℕ) (rs new : List Record)
    (key : Key) (j : Option Joined) → h.holder < length held → rs ≡ get_or held h.holder rs → key ≡ h.key
    → taken_in rs choice (record { key = key; counts = counts }) ≡ Some new → given_back j new ≡ rs
    → (held_with held counts h choice ≡ Some (slice_set held h.holder new))
    × (back_at (slice_set held h.holder new) h.holder j ≡ held)
hold_made held counts h choice rs new key j lt at same taken back =
    let found : slice_get held h.holder ≡ Some rs = slice_get-get_or held h.holder rs lt ∙ ap Some (sym at) in (
      ap (λ o. take_in_at o held h.holder (record { key = h.key; counts = counts }) choice) found
          ∙ ap (λ (k : Key). put_in held h.holder (taken_in rs choice (record { key = k; counts = counts }))) (sym same)
          ∙ ap (put_in held h.holder) taken,
      back_of_set held h.holder rs new j lt at back,
    )

-- ---- several holders

pub undone_more : (log : List Taking) (t : Taking) (held : List (List Record)) → undone (log ++ t ∷ []) held
    ≡ undone log (back_at held t.holder t.joined)
undone_more [] t held = refl
undone_more (x ∷ xs) t held = ap (λ (h : List (List Record)). back_at h x.holder x.joined) (undone_more xs t held)

pub undone_less : (log : List Taking) (k : ℕ) (t : Taking) (held : List (List Record)) → k < length log → t
    ≡ get_or log k t → undone (take k log) (back_at held t.holder t.joined) ≡ undone (take (k + 1) log) held
undone_less log k t held lt e = subst (λ m. undone (take k log) (back_at held t.holder t.joined)
    ≡ undone (take m log) held) (sym (add-one k)) (go log k lt e)
  where
    go : (log : List Taking) (k : ℕ) → k < length log → t ≡ get_or log k t
        → undone (take k log) (back_at held t.holder t.joined) ≡ undone (take (suc k) log) held
    go [] k lt e = absurd (omega arith)
    go (x ∷ xs) zero lt e = ap (λ (y : Taking). back_at held y.holder y.joined) e
    go (x ∷ xs) (suc k) lt e = ap (λ (h : List (List Record)). back_at h x.holder x.joined)
        (go xs k (le_of_suc-le-suc lt) e)

none_then : (f : List (List Record) → Option (List (List Record))) (o : Option (List (List Record)))
    → ((held : List (List Record)) → f held ≡ None) → option_and_then f o ≡ None
none_then f None h = refl
none_then f (Some held) h = h held

pub hold_unequal : (counts : Counts) (hs : List Holding) (held : List (List Record)) (cs : Choices)
    → length hs ≢ length cs → hold_all counts hs held cs ≡ None
hold_unequal counts [] held [] ne = absurd (ne refl)
hold_unequal counts [] held (c ∷ cs) ne = refl
hold_unequal counts (h ∷ hs) held [] ne = refl
hold_unequal counts (h ∷ hs) held (c ∷ cs) ne =
    let less : length hs ≢ length cs = λ e. ne (ap suc e) in
    none_then (λ (now : List (List Record)). hold_all counts hs now cs) (held_with held counts h c)
    (λ now. hold_unequal counts hs now cs less)

-- a holder that isn't there, and one that refuses
pub hold_past : (held : List (List Record)) (counts : Counts) (h : Holding) (choice : Option ℕ) → length held ≤ h.holder
    → held_with held counts h choice ≡ None
hold_past held counts h choice past =
    ap (λ o. take_in_at o held h.holder (record { key = h.key; counts = counts }) choice)
    (slice_get_past held h.holder past)

pub hold_refused : (held : List (List Record)) (counts : Counts) (h : Holding) (choice : Option ℕ) (rs : List Record)
    → h.holder < length held → rs ≡ get_or held h.holder rs
    → taken_in rs choice (record { key = h.key; counts = counts }) ≡ None → held_with held counts h choice ≡ None
hold_refused held counts h choice rs lt at refused =
    let found : slice_get held h.holder ≡ Some rs = slice_get-get_or held h.holder rs lt ∙ ap Some (sym at) in
    ap (λ o. take_in_at o held h.holder (record { key = h.key; counts = counts }) choice) found
    ∙ ap (put_in held h.holder) refused

pub same_held : (held : List (List Record)) (n : ℕ) (rs now : List Record) → rs ≡ get_or held n rs → now ≡ rs
    → slice_set held n now ≡ held
same_held held n rs now at same = ap (slice_set held n) (same ∙ at) ∙ set-get_or held n rs

-- ---- each of several holders in turn

pub rest_at : {A : Type 0} (xs : List A) (n : ℕ) (x : A) → n < length xs → x ≡ get_or xs n x → drop n xs ≡ x
    ∷ drop (n + 1) xs
rest_at xs n x lt at = at_drop_more (λ rest. rest) xs n x lt ∙ ap (λ y. y ∷ drop (n + 1) xs) (sym at)

pub one_holds : (counts : Counts) (hs hs' : List Holding) (cs cs' : Choices) (h : Holding) (choice : Option ℕ)
    (held held' : List (List Record)) → hs ≡ h ∷ hs' → cs ≡ choice ∷ cs' → held_with held counts h choice ≡ Some held'
    → hold_all counts hs held cs ≡ hold_all counts hs' held' cs'
one_holds counts hs hs' cs cs' h choice held held' first chosen made =
    ap (λ l. hold_all counts l held cs) first ∙ ap (λ l. hold_all counts (h ∷ hs') held l) chosen
    ∙ ap (option_and_then (λ (now : List (List Record)). hold_all counts hs' now cs')) made

pub one_refuses : (counts : Counts) (hs hs' : List Holding) (cs cs' : Choices) (h : Holding) (choice : Option ℕ)
    (held : List (List Record)) → hs ≡ h ∷ hs' → cs ≡ choice ∷ cs' → held_with held counts h choice ≡ None
    → hold_all counts hs held cs ≡ None
one_refuses counts hs hs' cs cs' h choice held first chosen refused =
    ap (λ l. hold_all counts l held cs) first ∙ ap (λ l. hold_all counts (h ∷ hs') held l) chosen
    ∙ ap (option_and_then (λ (now : List (List Record)). hold_all counts hs' now cs')) refused

pub none_holds : (counts : Counts) (hs : List Holding) (cs : Choices) (held : List (List Record)) → hs ≡ [] → cs ≡ []
    → hold_all counts hs held cs ≡ Some held
none_holds counts hs cs held no_holder no_choice =
    ap (λ l. hold_all counts l held cs) no_holder ∙ ap (λ l. hold_all counts [] held l) no_choice

-- what was noted at a holder that refuses is undone
pub all_undone : (log log' noted : List Taking) (held held' before after : List (List Record)) → after
    ≡ undone noted held' → noted ≡ log' → held' ≡ held → log' ≡ log → undone log held ≡ before → after ≡ before
all_undone log log' noted held held' before after is noted_is same same' back =
    is ∙ ap (λ l. undone l held') (noted_is ∙ same') ∙ ap (undone log) same ∙ back
