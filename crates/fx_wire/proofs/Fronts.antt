-- What stands at the front of a stream, and octets behind it.
use Rattle.std.proofs.Common.{◌≡◌, ◌≢◌, ℕ, ◌+◌, ◌≤◌, Bool, true, false, not, eqb, ltb, List, ◌++◌, length, take, drop, refl, ap, sym, ◌∙◌, arith, Result, Ok, Err, ltb-false, le-ltb, inl, inr, length-append, length-drop}
use Rattle.std.specs.Int.{Width, w16, w32, byte_len, from_be_bytes}
use Rattle.std.proofs.lemmas.List.{take-append-le, drop-append-le, take-append-drop, length-take-le}
use Rattle.fx_wire.specs.Numbers.{number_at}
use Rattle.fx_wire.specs.Headers.{Frame, more, whole, refused, frame_of, frame_at, header_of}
use Rattle.fx_wire.specs.Sets.{SetParts, sets_of}
use Rattle.fx_wire.specs.Messages.{Message, needs_more, complete, with_sets, front_by, front}
use Rattle.fx_wire.specs.declared.header.Header.{Header}
use Rattle.fx_wire.specs.declared.malformed.Malformed.{Malformed}
use Rattle.fx_wire.specs.declared.malformed.Malformed.TheVariants as malformed
use Rattle.fx_wire.proofs.SetLists.{chosen}

-- the length of a whole message
whole_size : (there version size n : ℕ) → frame_of there version size ≡ whole n → (16 ≤ there) × (16 ≤ n) × (n ≤ there)
whole_size there version size n e =
    elim (chosen (ltb there 16) more _ (whole n) e) [
      | inl h ↦ absurd cc
      | inr h ↦ elim (chosen (not (eqb version 10)) (refused malformed.Version) _ (whole n) h.1) [
        | inl i ↦ absurd cc
        | inr i ↦ elim (chosen (ltb size 16) (refused malformed.MessageLength) _ (whole n) i.1) [
          | inl j ↦ absurd cc
          | inr j ↦ elim (chosen (ltb there size) more (whole size) (whole n) j.1) [
            | inl k ↦ absurd cc
            | inr k ↦ let s : size ≡ n = cc in (
              ltb-false there 16 h.0,
              omega (arith, s, ltb-false size 16 j.0),
              omega (arith, s, ltb-false there size k.0),
            )
          ]
        ]
      ]
    ]

-- more octets don't change what the header tells, if it needs no more
frame_more : (there later version size : ℕ) → there ≤ later → frame_of there version size ≢ more → (16 ≤ there)
    × (frame_of later version size ≡ frame_of there version size)
frame_more there later version size le ne = go (ltb there 16) refl (ltb there size) refl where
  later_on : ltb there 16 ≡ false → ltb there size ≡ true → (c : Bool) → not (eqb version 10) ≡ c → (d : Bool)
      → ltb size 16 ≡ d → (16 ≤ there) × (frame_of later version size ≡ frame_of there version size)
  later_on e f true g d h = (
    ltb-false there 16 e,
    rw (e, g, le-ltb later 16 (omega (arith, ltb-false there 16 e)))
        refl,
  )
  later_on e f false g true h = (
    ltb-false there 16 e,
    rw (e, g, h, le-ltb later 16 (omega (arith, ltb-false there 16 e))) refl,
  )
  later_on e f false g false h = absurd (ne (rw (e, g, h, f) refl))

  go : (a : Bool) → ltb there 16 ≡ a → (b : Bool) → ltb there size ≡ b → (16 ≤ there)
      × (frame_of later version size ≡ frame_of there version size)
  go true e b f = absurd (ne (rw e refl))
  go false e true f = later_on e f (not (eqb version 10)) refl (ltb size 16) refl
  go false e false f = (
    ltb-false there 16 e,
    rw (
      e,
      f,
      le-ltb later 16 (omega (arith, ltb-false there 16 e)),
      le-ltb later size
          (omega (arith, ltb-false there size f)),
    ) refl,
  )

number_front : (w : Width) (i : ℕ) (bs cs : List ℕ) → i + byte_len w ≤ length bs → number_at w i (bs ++ cs)
    ≡ number_at w i bs
number_front w i bs cs le =
    let d : drop i (bs ++ cs) ≡ drop i bs ++ cs = drop-append-le i bs cs (omega arith) in
    let t : take (byte_len w) (drop i bs ++ cs) ≡ take (byte_len w) (drop i bs) =
    take-append-le (byte_len w) (drop i bs) cs (omega (arith, length-drop i bs)) in
    ap (from_be_bytes w) (ap (take (byte_len w)) d ∙ t)

header_front : (bs cs : List ℕ) → 16 ≤ length bs → header_of (bs ++ cs) ≡ header_of bs
header_front bs cs le =
    let a = number_front w32 4 bs cs (omega arith) in
    let b = number_front w32 8 bs cs (omega arith) in
    let d = number_front w32 12 bs cs (omega arith) in
    cc (a, b, d)

frame_at-more : (bs cs : List ℕ) → frame_at bs ≢ more → frame_at (bs ++ cs) ≡ frame_at bs
frame_at-more bs cs ne =
    let f = frame_more (length bs) (length (bs ++ cs)) (number_at w16 0 bs) (number_at w16 2 bs)
    (omega (arith, length-append bs cs)) ne in
    rw (number_front w16 0 bs cs (omega (arith, f.0)), number_front w16 2 bs cs (omega (arith, f.0))) f.1

message_size : (n : ℕ) (h : Header) (r : Result (List SetParts) Malformed) (m : Message) → with_sets n h r ≡ complete m
    → n ≡ m.octets
message_size n h (Ok ss) m e = cc
message_size n h (Err k) m e = absurd cc

-- a whole message has 16 octets at least, and they are there
pub front_size : (bs : List ℕ) (m : Message) → front bs ≡ complete m → (16 ≤ m.octets) × (m.octets ≤ length bs)
front_size bs m e = by (frame_at bs) refl e where
  by : (f : Frame) → frame_at bs ≡ f → front_by bs f ≡ complete m → (16 ≤ m.octets) × (m.octets ≤ length bs)
  by more k d = absurd cc
  by (refused n) k d = absurd cc
  by (whole n) k d =
      let w = whole_size (length bs) (number_at w16 0 bs) (number_at w16 2 bs) n k in
      let s = message_size n (header_of bs) (sets_of (drop 16 (take n bs))) m d in
      (omega (arith, w, s), omega (arith, w, s))

-- octets behind what stands at the front don't change it, if it needs no more
pub front_more : (bs cs : List ℕ) → front bs ≢ needs_more → front (bs ++ cs) ≡ front bs
front_more bs cs ne = by (frame_at bs) refl where
  by : (f : Frame) → frame_at bs ≡ f → front (bs ++ cs) ≡ front bs
  by more k = absurd (ne (ap (front_by bs) k))
  by (refused n) k =
      let apart : frame_at bs ≢ more = λ h. cc in
      ap (front_by (bs ++ cs)) (frame_at-more bs cs apart ∙ k) ∙ sym (ap (front_by bs) k)
  by (whole n) k =
      let apart : frame_at bs ≢ more = λ h. cc in
      let w = whole_size (length bs) (number_at w16 0 bs) (number_at w16 2 bs) n k in
      ap (front_by (bs ++ cs)) (frame_at-more bs cs apart ∙ k)
      ∙ ap (λ (h : Header). with_sets n h (sets_of (drop 16 (take n (bs ++ cs))))) (header_front bs cs w.0)
      ∙ ap (λ (body : List ℕ). with_sets n (header_of bs) (sets_of (drop 16 body))) (take-append-le n bs cs w.2)
      ∙ sym (ap (front_by bs) k)

frame_exact : (there version size n : ℕ) → frame_of there version size ≡ whole n → frame_of n version size ≡ whole n
frame_exact there version size n e =
    elim (chosen (ltb there 16) more _ (whole n) e) [
      | inl h ↦ absurd cc
      | inr h ↦ elim (chosen (not (eqb version 10)) (refused malformed.Version) _ (whole n) h.1) [
        | inl i ↦ absurd cc
        | inr i ↦ elim (chosen (ltb size 16) (refused malformed.MessageLength) _ (whole n) i.1) [
          | inl j ↦ absurd cc
          | inr j ↦ elim (chosen (ltb there size) more (whole size) (whole n) j.1) [
            | inl k ↦ absurd cc
            | inr k ↦
                let s : size ≡ n = cc in
                let enough : ltb n 16 ≡ false = le-ltb n 16 (omega (arith, s, ltb-false size 16 j.0)) in
                let all : ltb n size ≡ false = le-ltb n size (omega (arith, s)) in
                rw (enough, i.0, j.0, all) (ap whole s)
          ]
        ]
      ]
    ]

never_more : (n : ℕ) (h : Header) (r : Result (List SetParts) Malformed) → with_sets n h r ≡ needs_more → ⊥
never_more n h (Ok ss) e = cc
never_more n h (Err k) e = cc

-- a message stands alone as it stands at the front of a stream
pub front_alone : (bs : List ℕ) (m : Message) → front bs ≡ complete m → front (take m.octets bs) ≡ complete m
front_alone bs m e = by (frame_at bs) refl e where
  by : (f : Frame) → frame_at bs ≡ f → front_by bs f ≡ complete m → front (take m.octets bs) ≡ complete m
  by more k d = absurd cc
  by (refused n) k d = absurd cc
  by (whole n) k d =
      let w = whole_size (length bs) (number_at w16 0 bs) (number_at w16 2 bs) n k in
      let s = message_size n (header_of bs) (sets_of (drop 16 (take n bs))) m d in
      let parts : take n bs ++ drop n bs ≡ bs = take-append-drop n bs in
      let size : length (take n bs) ≡ n = length-take-le n bs w.2 in
      let version : number_at w16 0 (take n bs) ≡ number_at w16 0 bs =
      sym (number_front w16 0 (take n bs) (drop n bs) (omega (arith, size, w.1))) ∙ ap (number_at w16 0) parts in
      let long : number_at w16 2 (take n bs) ≡ number_at w16 2 bs =
      sym (number_front w16 2 (take n bs) (drop n bs) (omega (arith, size, w.1))) ∙ ap (number_at w16 2) parts in
      let alone : frame_at (take n bs) ≡ whole n =
      ap (λ (x : ℕ). frame_of x (number_at w16 0 (take n bs)) (number_at w16 2 (take n bs))) size
      ∙ ap (λ (x : ℕ). frame_of n x (number_at w16 2 (take n bs))) version
      ∙ ap (λ (x : ℕ). frame_of n (number_at w16 0 bs) x) long
      ∙ frame_exact (length bs) (number_at w16 0 bs) (number_at w16 2 bs) n k in
      let apart : front (take n bs) ≢ needs_more =
      λ h. never_more n (header_of (take n bs)) (sets_of (drop 16 (take n (take n bs))))
      (sym (ap (front_by (take n bs)) alone) ∙ h) in
      ap (λ (x : ℕ). front (take x bs)) (sym s) ∙ sym (front_more (take n bs) (drop n bs) apart) ∙ ap front parts ∙ e
