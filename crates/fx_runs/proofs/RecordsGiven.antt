-- What a record that is put on some links gives each of them.
use Rattle.std.proofs.Common.{◌≡◌, ◌≢◌, ℕ, zero, suc, ◌-◌, ◌<◌, ◌==◌, Bool, true, false, cond, List, [], ◌∷◌, ◌++◌, length, drop, option_map, Option, Some, None, refl, ap, sym, ◌∙◌, arith, append_assoc, append-nil, slice_get, slice_set}
use Rattle.std.proofs.lemmas.Bool.{eqb-true, eqb-false}
use Rattle.std.proofs.Math.Seq.{drop-append_seam, drop-length}
use Rattle.fx_tables.specs.declared.record.Record.{Record}
use Rattle.fx_tables.specs.declared.holder_name.HolderName.{HolderName}
use Rattle.fx_run_text.specs.declared.step.Step.TheVariants.{Cross, Expire, Arrive}
use Rattle.fx_tables.specs.Network.{entries}
use Rattle.fx_machine.specs.States.{State, put_last}
use Rattle.fx_machine.specs.Acts.{Choices}
use Rattle.fx_machine.specs.Sends.{put_all}
use Rattle.fx_machine.proofs.LastLeaves.{there}
use Rattle.fx_runs.specs.PutOn.{carried_on, put_by}
use Rattle.fx_runs.specs.Given.{records_given}

-- ---- places of lists

put_here : (rss : List (List Record)) (n : ℕ) (r : Record) → slice_get (put_last rss n r) n
    ≡ option_map (λ rs. rs ++ r ∷ []) (slice_get rss n)
put_here [] n r = refl
put_here (rs ∷ rss) zero r = refl
put_here (rs ∷ rss) (suc n) r = put_here rss n r

put_elsewhere : (rss : List (List Record)) (n link : ℕ) (r : Record) → n ≢ link → slice_get (put_last rss n r) link
    ≡ slice_get rss link
put_elsewhere [] n link r ne = refl
put_elsewhere (rs ∷ rss) zero zero r ne = absurd (ne refl)
put_elsewhere (rs ∷ rss) zero (suc k) r ne = refl
put_elsewhere (rs ∷ rss) (suc n) zero r ne = refl
put_elsewhere (rs ∷ rss) (suc n) (suc k) r ne = put_elsewhere rss n k r (λ e. ne (ap suc e))

set_here : (rss : List (List Record)) (n : ℕ) (old new : List Record) → slice_get rss n ≡ Some old
    → slice_get (slice_set rss n new) n ≡ Some new
set_here [] n old new e = absurd cc
set_here (rs ∷ rss) zero old new e = refl
set_here (rs ∷ rss) (suc n) old new e = set_here rss n old new e

set_elsewhere : (rss : List (List Record)) (n link : ℕ) (new : List Record) → n ≢ link
    → slice_get (slice_set rss n new) link ≡ slice_get rss link
set_elsewhere [] n link new ne = refl
set_elsewhere (rs ∷ rss) zero zero new ne = absurd (ne refl)
set_elsewhere (rs ∷ rss) zero (suc k) new ne = refl
set_elsewhere (rs ∷ rss) (suc n) zero new ne = refl
set_elsewhere (rs ∷ rss) (suc n) (suc k) new ne = set_elsewhere rss n k new (λ e. ne (ap suc e))

-- ---- a record put on links

more_at : (a b : List Record) (o : Option (List Record)) → option_map (λ rs. rs ++ b) (option_map (λ rs. rs ++ a) o)
    ≡ option_map (λ rs. rs ++ (a ++ b)) o
more_at a b None = refl
more_at a b (Some rs) = ap (λ (x : List Record). Some x) (append_assoc rs a b)

given_nothing : (o : Option (List Record)) → o ≡ option_map (λ rs. rs ++ []) o
given_nothing None = refl
given_nothing (Some rs) = ap (λ (x : List Record). Some x) (sym (append-nil rs))

-- one link
put_gives : (rss : List (List Record)) (l link : ℕ) (r : Record) (b : Bool) → (l == link) ≡ b
    → slice_get (put_last rss l r) link ≡ option_map (λ rs. rs ++ cond b (r ∷ []) []) (slice_get rss link)
put_gives rss l link r true e =
    let same : l ≡ link = eqb-true l link e in
    ap (λ (n : ℕ). slice_get (put_last rss n r) link) same ∙ put_here rss link r
put_gives rss l link r false e = put_elsewhere rss l link r (eqb-false l link e) ∙ given_nothing (slice_get rss link)

pub gives_all : (links : List ℕ) (r : Record) (rss : List (List Record)) (link : ℕ)
    → slice_get (put_all links r rss) link ≡ option_map (λ rs. rs ++ records_given links r link) (slice_get rss link)
gives_all [] r rss link = given_nothing (slice_get rss link)
gives_all (l ∷ ls) r rss link =
    gives_all ls r (put_last rss l r) link
    ∙ ap (option_map (λ rs. rs ++ records_given ls r link)) (put_gives rss l link r (l == link) refl)
    ∙ more_at (cond (l == link) (r ∷ []) []) (records_given ls r link) (slice_get rss link)

-- ---- what steps put

-- what is given to a link with these records lies behind them
behind : (s t : State) (links : List ℕ) (r : Record) (rss : List (List Record)) (rs : List Record) (link n : ℕ)
    → t.carried ≡ put_all links r rss → slice_get rss link ≡ Some rs → n ≡ length rs
    → drop n (carried_on t link) ≡ records_given links r link
behind s t links r rss rs link n e at len =
    ap (λ (x : List (List Record)). drop n (entries (slice_get x link))) e
    ∙ ap (λ (o : Option (List Record)). drop n (entries o))
    (gives_all links r rss link ∙ ap (option_map (λ rs. rs ++ records_given links r link)) at)
    ∙ ap (λ (m : ℕ). drop m (rs ++ records_given links r link)) len
    ∙ drop-append_seam rs (records_given links r link)

pub expire_puts : (name : HolderName) (number : ℕ) (choices : Choices) (s t : State) (links : List ℕ) (r : Record)
    (link : ℕ) → t.carried ≡ put_all links r s.carried → link < length s.carried
    → put_by (Expire name number choices) link s t ≡ records_given links r link
expire_puts name number choices s t links r link e within =
    let at = there s.carried link within in
    let len : length (carried_on s link) ≡ length at.0 = ap (λ (o : Option (List Record)). length (entries o)) at.1 in
    behind s t links r s.carried at.0 link (length (carried_on s link) - 0) e at.1 (omega (arith, len))

-- the link that the record leaves, or another
arrive_by : (from : ℕ) (s t : State) (links : List ℕ) (r : Record) (rs : List Record) (link : ℕ) (b : Bool)
    → (suc from == suc link) ≡ b → slice_get s.carried from ≡ Some (r ∷ rs) → t.carried
    ≡ put_all links r (slice_set s.carried from rs) → link < length s.carried
    → drop (length (carried_on s link) - cond b 1 0) (carried_on t link) ≡ records_given links r link
arrive_by from s t links r rs link true h g e within =
    let same : from ≡ link = omega (arith, eqb-true (suc from) (suc link) h) in
    let old : slice_get s.carried link ≡ Some (r ∷ rs) = ap (slice_get s.carried) (sym same) ∙ g in
    let new : slice_get (slice_set s.carried from rs) link ≡ Some rs =
    ap (slice_get (slice_set s.carried from rs)) (sym same) ∙ set_here s.carried from (r ∷ rs) rs g in
    let len : length (carried_on s link) ≡ length (r ∷ rs) = ap (λ (o : Option (List Record)). length (entries o)) old
    in
    behind s t links r (slice_set s.carried from rs) rs link (length (carried_on s link) - 1) e new (omega (arith, len))
arrive_by from s t links r rs link false h g e within =
    let at = there s.carried link within in
    let new : slice_get (slice_set s.carried from rs) link ≡ Some at.0 =
    set_elsewhere s.carried from link rs (λ same. eqb-false (suc from) (suc link) h (ap suc same)) ∙ at.1 in
    let len : length (carried_on s link) ≡ length at.0 = ap (λ (o : Option (List Record)). length (entries o)) at.1 in
    behind s t links r (slice_set s.carried from rs) at.0 link (length (carried_on s link) - 0) e new
    (omega (arith, len))

pub arrive_puts : (from : ℕ) (choices : Choices) (s t : State) (links : List ℕ) (r : Record) (rs : List Record)
    (link : ℕ) → slice_get s.carried from ≡ Some (r ∷ rs) → t.carried ≡ put_all links r (slice_set s.carried from rs)
    → link < length s.carried
    → put_by (Arrive (suc from) 1 choices) link s t ≡ records_given links r link
arrive_puts from choices s t links r rs link g e within =
    arrive_by from s t links r rs link (suc from == suc link) refl g e within

pub cross_puts : (packet crossing : ℕ) (choices : Choices) (s t : State) (link : ℕ) → t.carried ≡ s.carried
    → put_by (Cross packet crossing choices) link s t ≡ []
cross_puts packet crossing choices s t link e =
    let n : length (carried_on s link) - 0 ≡ length (carried_on s link) = omega arith in
    ap (λ (rss : List (List Record)). drop (length (carried_on s link) - 0) (entries (slice_get rss link))) e
    ∙ ap (λ (m : ℕ). drop m (carried_on s link)) n
    ∙ drop-length (carried_on s link)
