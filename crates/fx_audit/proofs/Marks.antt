-- Lines `%%` in octets.
use Rattle.std.proofs.Common.{◌≡◌, ℕ, ◌+◌, ◌<◌, ◌≤◌, Bool, true, false, ◌&&◌, ◌==◌, List, [], ◌∷◌, ◌++◌, length, take, drop, slice_index, eqb-true, refl, sym, ap, ◌∙◌, subst, arith, ◌⊎◌, inl, inr}
use Rattle.std.proofs.lemmas.List.{length-drop, length-take, length-take-le, take-append-drop}
use Rattle.std.proofs.Math.Seq.{drop-drop}
use Rattle.std.proofs.lemmas.Slice.Eq.{bytes_eq-Decides}
use Rattle.fx_audit.specs.declared.bundle.Command.{Command}
use Rattle.fx_audit.specs.declared.bundle.Command.TheVariants.{Audit, Replay, Check, Confirm}
use Rattle.fx_audit.specs.Bundle.{mark, begins_line, is_mark_at, FirstText, HasNoMark, ThirdText, command_line, IsBundle}

both : (a b : Bool) → (a && b) ≡ true → (a ≡ true) × (b ≡ true)
both true true h = (refl, refl)
both true false h = absurd (cc)
both false b h = absurd (cc)

not_true : (a : Bool) → (a ≡ true → ⊥) → a ≡ false
not_true true h = absurd (h refl)
not_true false h = refl

-- the octets of a mark stand there
pub mark_octets : (bytes : List ℕ) (at : ℕ) → is_mark_at bytes at ≡ true → take 3 (drop at bytes) ≡ mark
mark_octets bytes at h = (bytes_eq-Decides (take 3 (drop at bytes)) mark).0 (both (begins_line bytes at) _ h).1

-- a mark lies within the octets
pub mark_within : (bytes : List ℕ) (at : ℕ) → is_mark_at bytes at ≡ true → at + 3 ≤ length bytes
mark_within bytes at h =
    let many : length (take 3 (drop at bytes)) ≡ 3 = ap length (mark_octets bytes at h) in
    let fewer : length (take 3 (drop at bytes)) ≤ length (drop at bytes) = omega (arith, length-take 3 (drop at bytes))
    in
    omega (arith, many, fewer, length-drop at bytes)

cases_lt : (a b : ℕ) → (a < b) ⊎ (b ≤ a)
cases_lt a b = grind arith

-- a mark is not past the end
pub none_at_all : (bytes : List ℕ) → ((k : ℕ) → k < length bytes → is_mark_at bytes k ≡ false) → HasNoMark bytes
none_at_all bytes h k = elim (cases_lt k (length bytes))
    [ inl lt ↦ h k lt | inr le ↦ not_true _ (λ t. let in_it = mark_within bytes k t in omega arith) ]

pub first_text_is : (bytes : List ℕ) (at : ℕ) → is_mark_at bytes at ≡ true
    → ((k : ℕ) → k < at → is_mark_at bytes k ≡ false) → FirstText bytes (take at bytes) (drop (at + 3) bytes)
first_text_is bytes at h before =
    let within = mark_within bytes at h in
    let many : length (take at bytes) ≡ at = length-take-le at bytes (omega arith) in
    record {
      parts = sym (ap (λ (bs : List ℕ). take at bytes ++ bs)
          (ap (λ (bs : List ℕ). bs ++ drop (at + 3) bytes) (sym (mark_octets bytes at h))
          ∙ ap (λ (bs : List ℕ). take 3 (drop at bytes) ++ bs) (sym (drop-drop 3 at bytes))
          ∙ take-append-drop 3 (drop at bytes)) ∙ take-append-drop at bytes);
      marked = subst (λ n. is_mark_at bytes n ≡ true) (sym many) h;
      first = λ k lt. before k (omega (arith, lt, many));
    }

-- ---- there is one first text at most

cases_three : (a b : ℕ) → (a < b) ⊎ ((a ≡ b) ⊎ (b < a))
cases_three a b = grind arith

same_length : (bytes one two behind_one behind_two : List ℕ) → FirstText bytes one behind_one
    → FirstText bytes two behind_two → length one ≡ length two
same_length bytes one two r s f g =
    elim (cases_three (length one) (length two)) [
      | inl lt ↦ let no : is_mark_at bytes (length one) ≡ false = g.first (length one) lt in let yes = f.marked in
          absurd (cc)
      | inr (inl e) ↦ e
      | inr (inr lt) ↦ let no : is_mark_at bytes (length two) ≡ false = f.first (length two) lt in let yes = g.marked in
          absurd (cc)
    ]

taken : (text rest : List ℕ) → take (length text) (text ++ rest) ≡ text
taken [] rest = refl
taken (b ∷ bs) rest = ap (λ (xs : List ℕ). b ∷ xs) (taken bs rest)

dropped : (text rest : List ℕ) → drop (length text) (text ++ rest) ≡ rest
dropped [] rest = refl
dropped (b ∷ bs) rest = dropped bs rest

pub one_text : (bytes one two behind_one behind_two : List ℕ) → FirstText bytes one behind_one
    → FirstText bytes two behind_two → (one ≡ two) × (behind_one ≡ behind_two)
one_text bytes one two r s f g =
    let many = same_length bytes one two r s f g in
    let left : one ≡ two = sym (taken one (mark ++ r))
    ∙ ap (λ (bs : List ℕ). take (length one) bs) (sym f.parts ∙ g.parts)
    ∙ ap (λ n. take n (two ++ (mark ++ s))) many ∙ taken two (mark ++ s) in
    let right : mark ++ r ≡ mark ++ s = sym (dropped one (mark ++ r))
    ∙ ap (λ (bs : List ℕ). drop (length one) bs) (sym f.parts ∙ g.parts)
    ∙ ap (λ n. drop n (two ++ (mark ++ s))) many ∙ dropped two (mark ++ s) in
    (left, ap (λ (bs : List ℕ). drop 3 bs) right)

pub no_text : (bytes text rest : List ℕ) → HasNoMark bytes → FirstText bytes text rest → ⊥
no_text bytes text rest h f = let no : is_mark_at bytes (length text) ≡ false = h (length text) in let yes = f.marked in
    absurd (cc)

-- ---- there is one bundle at most

-- two octets at one place differ
differ : (place m n : ℕ) (one two : List ℕ) → one ≡ two → slice_index one place ≡ m → slice_index two place ≡ n
    → (m ≡ n → ⊥) → ⊥
differ place m n one two same is_m is_n other =
    other (sym is_m ∙ (ap (λ (bs : List ℕ). slice_index bs place) same ∙ is_n))

one_command : (a b : Command) (r s : List ℕ) → command_line a ++ r ≡ command_line b ++ s → (a ≡ b) × (r ≡ s)
one_command Replay Replay r s e = (refl, ap (λ (bs : List ℕ). drop 7 bs) e)
one_command Check Check r s e = (refl, ap (λ (bs : List ℕ). drop 6 bs) e)
one_command Confirm Confirm r s e = (refl, ap (λ (bs : List ℕ). drop 8 bs) e)
one_command Audit Audit r s e = (refl, ap (λ (bs : List ℕ). drop 6 bs) e)
one_command Replay Check r s e = absurd (differ 0 114 99 _ _ e refl refl (λ same. omega (arith, same)))
one_command Replay Confirm r s e = absurd (differ 0 114 99 _ _ e refl refl (λ same. omega (arith, same)))
one_command Replay Audit r s e = absurd (differ 0 114 97 _ _ e refl refl (λ same. omega (arith, same)))
one_command Check Replay r s e = absurd (differ 0 99 114 _ _ e refl refl (λ same. omega (arith, same)))
one_command Check Confirm r s e = absurd (differ 1 104 111 _ _ e refl refl (λ same. omega (arith, same)))
one_command Check Audit r s e = absurd (differ 0 99 97 _ _ e refl refl (λ same. omega (arith, same)))
one_command Confirm Replay r s e = absurd (differ 0 99 114 _ _ e refl refl (λ same. omega (arith, same)))
one_command Confirm Check r s e = absurd (differ 1 111 104 _ _ e refl refl (λ same. omega (arith, same)))
one_command Confirm Audit r s e = absurd (differ 0 99 97 _ _ e refl refl (λ same. omega (arith, same)))
one_command Audit Replay r s e = absurd (differ 0 97 114 _ _ e refl refl (λ same. omega (arith, same)))
one_command Audit Check r s e = absurd (differ 0 97 99 _ _ e refl refl (λ same. omega (arith, same)))
one_command Audit Confirm r s e = absurd (differ 0 97 99 _ _ e refl refl (λ same. omega (arith, same)))

-- what stands behind the third text is the same for each that is one
one_rest : (command : Command) (bytes one two behind_one behind_two : List ℕ) → ThirdText command bytes one behind_one
    → ThirdText command bytes two behind_two → behind_one ≡ behind_two
one_rest Replay bytes one two r s f g = (one_text bytes one two r s f g).1
one_rest Check bytes one two r s f g = (one_text bytes one two r s f g).1
one_rest Confirm bytes one two r s f g = (one_text bytes one two r s f g).1
one_rest Audit bytes one two r s f g = f.1 ∙ sym g.1

-- where no line is a mark, there is no third text of a command that has one
pub no_third_text : (command : Command) (bytes text rest : List ℕ) → (command ≡ Audit → ⊥) → HasNoMark bytes
    → ThirdText command bytes text rest → ⊥
no_third_text Replay bytes text rest has none f = no_text bytes text rest none f
no_third_text Check bytes text rest has none f = no_text bytes text rest none f
no_third_text Confirm bytes text rest has none f = no_text bytes text rest none f
no_third_text Audit bytes text rest has none f = has refl

pub no_network : (bytes r0 n t h : List ℕ) (a b : Command) → bytes ≡ command_line a ++ r0 → HasNoMark r0
    → IsBundle bytes b n t h → ⊥
no_network bytes r0 n t h a b line none i =
    let same = one_command b a _ _ (sym i.line ∙ line) in
    no_text r0 n i.behind_network none (subst (λ (bs : List ℕ). FirstText bs n i.behind_network) same.1 i.first)

pub behind_network : (bytes r0 r1 network n t h : List ℕ) (a b : Command) → bytes ≡ command_line a ++ r0
    → FirstText r0 network r1 → IsBundle bytes b n t h → (r2 : List ℕ) × FirstText r1 t r2 × ThirdText a r2 h []
behind_network bytes r0 r1 network n t h a b line f i =
    let same = one_command b a _ _ (sym i.line ∙ line) in
    let own : FirstText r0 n i.behind_network = subst (λ (bs : List ℕ). FirstText bs n i.behind_network) same.1 i.first
    in
    let rest : i.behind_network ≡ r1 = (one_text r0 n network i.behind_network r1 own f).1 in
    let last : ThirdText a i.behind_traffic h [] =
    subst (λ (k : Command). ThirdText k i.behind_traffic h []) same.0 i.last in
    (i.behind_traffic, subst (λ (bs : List ℕ). FirstText bs t i.behind_traffic) rest i.second, last)

pub no_traffic : (bytes r0 r1 network n t h : List ℕ) (a b : Command) → bytes ≡ command_line a ++ r0
    → FirstText r0 network r1 → HasNoMark r1 → IsBundle bytes b n t h → ⊥
no_traffic bytes r0 r1 network n t h a b line f none i =
    let rest = behind_network bytes r0 r1 network n t h a b line f i in no_text r1 t rest.0 none rest.1

pub behind_traffic : (bytes r0 r1 r2 network traffic n t h : List ℕ) (a b : Command) → bytes ≡ command_line a ++ r0
    → FirstText r0 network r1 → FirstText r1 traffic r2 → IsBundle bytes b n t h → ThirdText a r2 h []
behind_traffic bytes r0 r1 r2 network traffic n t h a b line f g i =
    let rest = behind_network bytes r0 r1 network n t h a b line f i in
    let same : rest.0 ≡ r2 = (one_text r1 t traffic rest.0 r2 rest.1 g).1 in
    subst (λ (bs : List ℕ). ThirdText a bs h []) same rest.2

pub no_third : (bytes r0 r1 r2 network traffic n t h : List ℕ) (a b : Command) → bytes ≡ command_line a ++ r0
    → FirstText r0 network r1 → FirstText r1 traffic r2
    → ((text : List ℕ) (rest : List ℕ) → ThirdText a r2 text rest → ⊥) → IsBundle bytes b n t h → ⊥
no_third bytes r0 r1 r2 network traffic n t h a b line f g none i =
    none h [] (behind_traffic bytes r0 r1 r2 network traffic n t h a b line f g i)

pub nothing_behind : (bytes r0 r1 r2 r3 network traffic third n t h : List ℕ) (a b : Command) → bytes ≡ command_line a
    ++ r0 → FirstText r0 network r1 → FirstText r1 traffic r2 → ThirdText a r2 third r3 → IsBundle bytes b n t h → r3
    ≡ []
nothing_behind bytes r0 r1 r2 r3 network traffic third n t h a b line f g k i =
    one_rest a r2 third h r3 [] k (behind_traffic bytes r0 r1 r2 network traffic n t h a b line f g i)

-- the texts of a bundle, behind the last of which there is nothing
pub bundle_of : (bytes r0 r1 r2 r3 network traffic third : List ℕ) (a : Command) → bytes ≡ command_line a ++ r0
    → FirstText r0 network r1 → FirstText r1 traffic r2 → ThirdText a r2 third r3 → (length r3 == 0) ≡ true
    → IsBundle bytes a network traffic third
bundle_of bytes r0 r1 r2 [] network traffic third a line f g k none =
    record {
      behind_command = r0;
      behind_network = r1;
      behind_traffic = r2;
      line = line;
      first = f;
      second = g;
      last =
          k;
    }
bundle_of bytes r0 r1 r2 (x ∷ xs) network traffic third a line f g k none =
    let same : length (x ∷ xs) ≡ 0 = eqb-true _ _ none in absurd (omega (arith, same))
