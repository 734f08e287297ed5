-- Reading in pieces is reading at once.
use Rattle.std.proofs.Common.{◌≡◌, ◌≢◌, ℕ, zero, suc, ◌+◌, ◌≤◌, ◌<◌, List, [], ◌∷◌, ◌++◌, length, take, drop, refl, ap, sym, ◌∙◌, arith, Result, Ok, Err, Option, Some, None, option_map, unwrap_or, length-drop, append_assoc}
use Rattle.std.proofs.lemmas.List.{drop-append-le, drop-drop, drop_all, length-take}
use Rattle.std.proofs.Math.Seq.{take-add}
use Rattle.fx_wire.specs.Messages.{Message, Front, front, needs_more, complete, refusal}
use Rattle.fx_wire.proofs.Fronts.{front_size, front_more, front_alone}
use Rattle.fx_session.specs.Messages.{Known, message_read, without_domains}
use Rattle.fx_session.specs.Streams.{SessionState, place_after, waits, fails, read_in, read_all, after_piece}
use Rattle.fx_session.specs.declared.stream_fault.StreamFault.{StreamFault}
use Rattle.fx_session.specs.StreamFaults.{number_of}
use Rattle.fx_session.specs.declared.stream_fault.StreamFault.TheVariants as faults
use Rattle.fx_wire.specs.declared.malformed.Malformed.{Malformed}
use Rattle.fx_wire.specs.declared.malformed.Malformed.TheVariants as malformed

-- what a message that was read leaves
abbrev taken : ℕ → Known → ℕ → List ℕ → ℕ → Result Known StreamFault → SessionState
taken turns k place bs n (Ok next) = read_in turns next (place_after place n) (drop n bs)
taken turns k place bs n (Err number) = fails k place number

-- one turn, by what stands at the front
abbrev turn : ℕ → Known → ℕ → List ℕ → Front → SessionState
turn turns k place bs needs_more = waits k place bs
turn turns k place bs (refusal why) = fails k place (faults.Malformed why)
turn turns k place bs (complete m) = taken turns k place bs m.octets (message_read k m)

step_same : (i j : ℕ) (k : Known) (place : ℕ) (bs : List ℕ)
    → ((t : Known) (p n : ℕ) → 16 ≤ n → n ≤ length bs → read_in i t p (drop n bs) ≡ read_in j t p (drop n bs))
    → (f : Front) → front bs ≡ f → turn i k place bs f ≡ turn j k place bs f
step_same i j k place bs ih needs_more e = refl
step_same i j k place bs ih (refusal n) e = refl
step_same i j k place bs ih (complete m) e = took (message_read k m) where
  took : (r : Result Known StreamFault) → taken i k place bs m.octets r ≡ taken j k place bs m.octets r
  took (Ok t) = let w = front_size bs m e in ih t (place_after place m.octets) m.octets w.0 w.1
  took (Err n) = refl

-- more turns than octets change nothing
turns_same : (i j : ℕ) (k : Known) (place : ℕ) (bs : List ℕ) → length bs ≤ i → length bs ≤ j → read_in i k place bs
    ≡ read_in j k place bs
unfolding read_in
turns_same zero zero k place bs h l = refl
turns_same zero (suc j) k place [] h l = refl
turns_same zero (suc j) k place (b ∷ bs) h l = absurd (omega arith)
turns_same (suc i) zero k place [] h l = refl
turns_same (suc i) zero k place (b ∷ bs) h l = absurd (omega arith)
turns_same (suc i) (suc j) k place bs h l =
    step_same i j k place bs (λ t p n pos le. turns_same i j t p (drop n bs) (omega (arith, length-drop n bs))
    (omega (arith, length-drop n bs))) (front bs) refl

pub all_more : (k : Known) (place : ℕ) (bs : List ℕ) → front bs ≡ needs_more → read_all k place bs ≡ waits k place bs
unfolding read_all read_in
all_more k place [] e = refl
all_more k place (b ∷ bs) e = ap (turn (length bs) k place (b ∷ bs)) e

pub all_refused : (k : Known) (place : ℕ) (why : Malformed) (bs : List ℕ) → front bs ≡ refusal why → read_all k place bs
    ≡ fails k place (faults.Malformed why)
unfolding read_all read_in
all_refused k place n [] e = absurd cc
all_refused k place n (b ∷ bs) e = ap (turn (length bs) k place (b ∷ bs)) e

pub all_err : (k : Known) (place : ℕ) (m : Message) (bs : List ℕ) (n : StreamFault) → front bs ≡ complete m
    → message_read k m ≡ Err n → read_all k place bs ≡ fails k place n
unfolding read_all read_in
all_err k place m [] n e g = absurd cc
all_err k place m (b ∷ bs) n e g = ap (turn (length bs) k place (b ∷ bs)) e
    ∙ ap (taken (length bs) k place (b ∷ bs) m.octets) g

pub all_goes : (k t : Known) (place : ℕ) (m : Message) (bs : List ℕ) → front bs ≡ complete m → message_read k m ≡ Ok t
    → read_all k place bs ≡ read_all t (place_after place m.octets) (drop m.octets bs)
unfolding read_all read_in
all_goes k t place m [] e g = absurd cc
all_goes k t place m (b ∷ bs) e g =
    let w = front_size (b ∷ bs) m e in
    ap (turn (length bs) k place (b ∷ bs)) e ∙ ap (taken (length bs) k place (b ∷ bs) m.octets) g
    ∙ turns_same (length bs) (length (drop m.octets (b ∷ bs))) t (place_after place m.octets) (drop m.octets (b ∷ bs))
    (omega (arith, length-drop m.octets (b ∷ bs), w)) (omega arith)

-- reading on with what comes later
join_step : (k : Known) (place : ℕ) (bs cs : List ℕ)
    → ((t : Known) (p n : ℕ) → 16 ≤ n → n ≤ length bs → read_all t p (drop n bs ++ cs)
    ≡ after_piece (read_all t p (drop n bs)) cs)
    → (f : Front) → front bs ≡ f → read_all k place (bs ++ cs) ≡ after_piece (read_all k place bs) cs
join_step k place bs cs ih needs_more e = ap (λ (st : SessionState). after_piece st cs) (sym (all_more k place bs e))
join_step k place bs cs ih (refusal n) e =
    let ne : front bs ≢ needs_more = λ h. cc in
    all_refused k place n (bs ++ cs) (front_more bs cs ne ∙ e)
    ∙ sym (ap (λ (st : SessionState). after_piece st cs) (all_refused k place n bs e))
join_step k place bs cs ih (complete m) e = took (message_read k m) refl where
  later : front (bs ++ cs) ≡ complete m
  later = let ne : front bs ≢ needs_more = λ h. cc in front_more bs cs ne ∙ e

  took : (r : Result Known StreamFault) → message_read k m ≡ r → read_all k place (bs ++ cs)
      ≡ after_piece (read_all k place bs) cs
  took (Err n) g = all_err k place m (bs ++ cs) n later g
      ∙ sym (ap (λ (st : SessionState). after_piece st cs) (all_err k place m bs n e g))
  took (Ok t) g =
      let w = front_size bs m e in
      all_goes k t place m (bs ++ cs) later g
      ∙ ap (read_all t (place_after place m.octets)) (drop-append-le m.octets bs cs w.1)
      ∙ ih t (place_after place m.octets) m.octets w.0 w.1
      ∙ sym (ap (λ (st : SessionState). after_piece st cs) (all_goes k t place m bs e g))

join : (turns : ℕ) (k : Known) (place : ℕ) (bs cs : List ℕ) → length bs ≤ turns → read_all k place (bs ++ cs)
    ≡ after_piece (read_all k place bs) cs
join zero k place bs cs le = join_step k place bs cs (λ t p n pos small. absurd (omega arith)) (front bs) refl
join (suc turns) k place bs cs le = join_step k place bs cs
    (λ t p n pos small. join turns t p (drop n bs) cs (omega (arith, length-drop n bs))) (front bs) refl

pub after_piece-on : (st : SessionState) (piece : List ℕ) → st.fault ≡ None → after_piece st piece
    ≡ read_all st.known st.place (st.rest ++ piece)
after_piece-on st piece e = rw e refl

pub after_piece-off : (st : SessionState) (piece : List ℕ) (n : ℕ) → st.fault ≡ Some n → after_piece st piece ≡ st
after_piece-off st piece n e = rw e refl

-- one piece and then another are both as one
pub pieces : (st : SessionState) (a b : List ℕ) → after_piece (after_piece st a) b ≡ after_piece st (a ++ b)
pieces st a b = by_fault st.fault refl where
  by_fault : (o : Option ℕ) → st.fault ≡ o → after_piece (after_piece st a) b ≡ after_piece st (a ++ b)
  by_fault (Some n) e = ap (λ (x : SessionState). after_piece x b) (after_piece-off st a n e) ∙ after_piece-off st b n e
      ∙ sym (after_piece-off st (a ++ b) n e)
  by_fault None e =
      ap (λ (x : SessionState). after_piece x b) (after_piece-on st a e)
      ∙ sym (join (length (st.rest ++ a)) st.known st.place (st.rest ++ a) b (omega arith))
      ∙ ap (read_all st.known st.place) (append_assoc st.rest a b) ∙ sym (after_piece-on st (a ++ b) e)

pub after_goes : (k t : Known) (place place' at : ℕ) (m : Message) (octets rest : List ℕ) → rest ≡ drop at octets
    → front rest ≡ complete m → message_read k m ≡ Ok t → place' ≡ place_after place m.octets
    → (at + m.octets ≤ length octets) × (read_all k place (drop at octets)
    ≡ read_all t place' (drop (at + m.octets) octets)) × (0 < m.octets)
after_goes k t place place' at m octets rest r e g p =
    let w = front_size rest m e in
    let d : drop m.octets rest ≡ drop (at + m.octets) octets = ap (drop m.octets) r ∙ drop-drop m.octets at octets in (
      omega (arith, w, ap length r, length-drop at octets),
      ap (read_all k place) (sym r) ∙ all_goes k t place m rest e g ∙ ap (read_all t (place_after place m.octets)) d
          ∙ ap (λ (x : ℕ). read_all t x (drop (at + m.octets) octets)) (sym p),
      omega (arith, w),
    )

pub after_err : (k t : Known) (place at : ℕ) (m : Message) (octets rest : List ℕ) (n : StreamFault) → rest
    ≡ drop at octets → front rest ≡ complete m → message_read k m ≡ Err n → t ≡ without_domains k
    → read_all k place (drop at octets) ≡ record { known = t; place = place; rest = []; fault = Some (number_of n) }
after_err k t place at m octets rest n r e g same = ap (read_all k place) (sym r) ∙ all_err k place m rest n e g
    ∙ ap (λ (x : Known). record { known = x; place = place; rest = []; fault = Some (number_of n) }) (sym same)

-- the same by the length that the code found
pub goes_by : (k t : Known) (place place' at n : ℕ) (m : Message) (octets rest : List ℕ) → n ≡ m.octets → rest
    ≡ drop at octets → complete m ≡ front rest → message_read k m ≡ Ok t → place' ≡ place_after place n
    → (at + n ≤ length octets) × (read_all k place (drop at octets) ≡ read_all t place' (drop (at + n) octets))
    × (0 < n)
goes_by k t place place' at n m octets rest size r e g p =
    let a = after_goes k t place place' at m octets rest r (sym e) g (p ∙ ap (place_after place) size) in (
      omega (arith, a.0, size),
      a.1 ∙ ap (λ (x : ℕ). read_all t place' (drop (at + x) octets)) (sym size),
      omega (arith, a.2, size),
    )

-- ---- the messages before a fault

pub all_none : (k : Known) (place : ℕ) → read_all k place [] ≡ waits k place []
unfolding read_all read_in
all_none k place = refl

-- one message more was read
pub before_goes : (k0 k t : Known) (place0 place place' at n : ℕ) (m : Message) (octets rest : List ℕ)
    → read_all k0 place0 (take at octets) ≡ waits k place [] → n ≡ m.octets → rest ≡ drop at octets
    → complete m ≡ front rest → message_read k m ≡ Ok t → place' ≡ place_after place n
    → read_all k0 place0 (take (at + n) octets) ≡ waits t place' []
before_goes k0 k t place0 place place' at n m octets rest before size r e g p =
    let alone = front_alone rest m (sym e) in
    let parts : take (at + n) octets ≡ take at octets ++ take m.octets rest = take-add at n octets
    ∙ ap (λ (x : ℕ). take at octets ++ take x (drop at octets)) size
    ∙ ap (λ (xs : List ℕ). take at octets ++ take m.octets xs) (sym r) in
    let none : drop m.octets (take m.octets rest) ≡ [] =
    drop_all m.octets (take m.octets rest) (omega (arith, length-take m.octets rest)) in
    ap (read_all k0 place0) parts ∙ join (length (take at octets)) k0 place0 (take at octets) (take m.octets rest)
    (omega arith) ∙ ap (λ (st : SessionState). after_piece st (take m.octets rest)) before
    ∙ all_goes k t place m (take m.octets rest) alone g ∙ ap (read_all t (place_after place m.octets)) none
    ∙ ap (λ (x : ℕ). read_all t x []) (sym (p ∙ ap (place_after place) size)) ∙ all_none t place'

-- ---- want of memory

-- no other fault has its number
pub out_of_memory : (o : Option StreamFault) → option_map number_of o ≡ Some 900 → o ≡ Some faults.OutOfMemory
out_of_memory None e = absurd cc
out_of_memory (Some fault) e = by fault (ap (λ (o : Option ℕ). unwrap_or o 0) e) where
  by : (f : StreamFault) → number_of f ≡ 900 → Some f ≡ Some faults.OutOfMemory
  by (faults.Malformed malformed.Version) n = absurd (omega (arith, n))
  by (faults.Malformed malformed.MessageLength) n = absurd (omega (arith, n))
  by (faults.Malformed malformed.SetLength) n = absurd (omega (arith, n))
  by (faults.Malformed malformed.Template) n = absurd (omega (arith, n))
  by (faults.Malformed malformed.SetId) n = absurd (omega (arith, n))
  by faults.TemplateIdInUse n = absurd (omega (arith, n))
  by faults.NoTemplate n = absurd (omega (arith, n))
  by faults.CounterLength n = absurd (omega (arith, n))
  by faults.CutRecord n = absurd (omega (arith, n))
  by faults.PrefixLength n = absurd (omega (arith, n))
  by faults.OutOfMemory n = refl
