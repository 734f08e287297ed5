-- Lines are accepted exactly where they are those of a sound certificate, and then each packet is counted once.
use Rattle.std.proofs.Common.{◌≡◌, ℕ, ◌≤◌, Bool, true, false, List, [], ◌∷◌, map, length, refl, ap, ap₂, subst, ◌∙◌, cond, Result, Ok, Err, Option, Some, None, leb-false, arith}
use Rattle.std.specs.Prelude.{nat_lt}
use Rattle.std.specs.List.{AllByRecursion}
use Rattle.fx_base.specs.Lines.{next_number}
use Rattle.fx_cert.specs.declared.item.Item.{Item}
use Rattle.fx_cert.specs.declared.item.Version.TheVariants.{One}
use Rattle.fx_cert.specs.ItemText.{IsItemText, item_text}
use Rattle.fx_cert.specs.ItemReading.{item_of}
use Rattle.fx_cert.proofs.Texts.{item_found}
use Rattle.fx_tables.specs.Classes.{Class}
use Rattle.fx_machine.specs.Claim.{ExactlyOnce, OnceModulo}
use Rattle.fx_tables.specs.Network.{Net}
use Rattle.fx_tables.specs.Ranks.{IsNetwork}
use Rattle.fx_leaf.proofs.Headline as headline
use Rattle.fx_check.specs.Judging.{Judge, judge_of}
use Rattle.fx_traffic.specs.Targets.{targets_of, AreRegions}
use Rattle.fx_check.specs.FirstRefusal.{Goal, Line, LineReading, long, cut, says, said, reading_of, after_reading, made_after, goes_on, first_refusal, whole, line_limit}
use Rattle.fx_check.specs.Certificates.{IsCertificate, IsShallow, AllCounted, IsWritable, item_line, certificate_items, sizes, in_a_row}
use Rattle.fx_check.proofs.ItemsRead.{line_says}
use Rattle.fx_check.proofs.SoundLeaves.{all_sound, all_right, sound_of, sound_back}
use Rattle.fx_check.proofs.Trees.{on, verdict, right_only, right_all}

-- ---- a line says an item exactly where it is that item's line

is_line : (l : Line) (i : Item) → reading_of l ≡ says i → (l ≡ item_line i) × IsWritable i
is_line l i e = by_length (nat_lt 4096 (length l.0)) refl l.1 refl e where
  is_text : l.1 ≡ true → length l.0 ≤ 4096 → IsItemText l.0 i → (l ≡ item_line i) × IsWritable i
  is_text ended short text = (
    ap₂ (λ (a : List ℕ) (b : Bool). let l : Line = (a, b) in l) text.1 ended,
    (text.0, rw (← text.1) short),
  )

  by_text : (o : Option Item) → item_of l.0 ≡ o → said o ≡ says i → l.1 ≡ true → length l.0 ≤ 4096 → (l ≡ item_line i)
      × IsWritable i
  by_text None is e ended short = absurd cc
  by_text (Some j) is e ended short = let same : j ≡ i = cc in
      is_text ended short (item_found l.0 i (is ∙ ap (λ x. Some x) same))

  by_length : (b : Bool) → nat_lt 4096 (length l.0) ≡ b → (f : Bool) → l.1 ≡ f
      → cond b long (cond f (said (item_of l.0)) cut) ≡ says i → (l ≡ item_line i) × IsWritable i
  by_length true is f ended e = absurd cc
  by_length false is false ended e = absurd cc
  by_length false is true ended e = by_text (item_of l.0) refl e ended
      (let n = leb-false 4097 (length l.0) is in omega (arith, n))

are_lines : (ls : List Line) (is : List Item) → map reading_of ls ≡ map says is → (ls ≡ map item_line is)
    × AllByRecursion IsWritable is
are_lines [] [] e = (refl, tt)
are_lines [] (i ∷ is) e = absurd cc
are_lines (l ∷ ls) [] e = absurd cc
are_lines (l ∷ ls) (i ∷ is) e =
    let first : reading_of l ≡ says i = cc in
    let rest : map reading_of ls ≡ map says is = cc in
    let here = is_line l i first in
    let more = are_lines ls is rest in
    (ap₂ (λ (x : Line) (xs : List Line). x ∷ xs) here.0 more.0, (here.1, more.1))

say_items : (is : List Item) → AllByRecursion IsWritable is → map reading_of (map item_line is) ≡ map says is
say_items [] h = refl
say_items (i ∷ is) h = ap₂ (λ (x : LineReading) (xs : List LineReading). x ∷ xs)
    (line_says (item_text i) true i refl h.0.1 (h.0.0, refl)) (say_items is h.1)

-- ---- no refusal is no fault

no_fault : (judge : Judge) (n made : ℕ) (gs : List Goal) (ls : List Line) → first_refusal judge n made gs ls ≡ None
    → verdict judge made gs (map reading_of ls) ≡ None
no_fault judge n made [] [] e = refl
no_fault judge n made (g ∷ gs) [] e = absurd cc
no_fault judge n made gs (l ∷ ls) e = go
    (λ left h. no_fault judge (next_number n) (made_after made (reading_of l)) left ls h)
    (after_reading judge made gs (reading_of l)) e where
      go : ((left : List Goal) → first_refusal judge (next_number n) (made_after made (reading_of l)) left ls ≡ None
          → verdict judge (made_after made (reading_of l)) left (map reading_of ls) ≡ None)
          → (r : Result (List Goal) ℕ) → goes_on (next_number n) ls
          (λ left. first_refusal judge (next_number n) (made_after made (reading_of l)) left ls) r ≡ None
          → on (λ left. verdict judge (made_after made (reading_of l)) left (map reading_of ls)) r ≡ None
      go more (Ok left) e = more left e
      go more (Err k) e = absurd cc

no_refusal : (judge : Judge) (n made : ℕ) (gs : List Goal) (ls : List Line) → verdict judge made gs (map reading_of ls)
    ≡ None → first_refusal judge n made gs ls ≡ None
no_refusal judge n made [] [] e = refl
no_refusal judge n made (g ∷ gs) [] e = absurd cc
no_refusal judge n made gs (l ∷ ls) e =
    go (λ left h. no_refusal judge (next_number n) (made_after made (reading_of l)) left ls h)
    (after_reading judge made gs (reading_of l)) e where
      go : ((left : List Goal) → verdict judge (made_after made (reading_of l)) left (map reading_of ls) ≡ None
          → first_refusal judge (next_number n) (made_after made (reading_of l)) left ls ≡ None)
          → (r : Result (List Goal) ℕ) → on (λ left. verdict judge (made_after made (reading_of l)) left
          (map reading_of ls)) r ≡ None → goes_on (next_number n) ls
          (λ left. first_refusal judge (next_number n) (made_after made (reading_of l)) left ls) r ≡ None
      go more (Ok left) e = more left e
      go more (Err k) e = absurd cc

-- ---- certificates

pub certificate_only : (net : Net) (classes : List Class) (n : ℕ) (ls : List Line) → IsNetwork net
    → AreRegions (targets_of classes) → first_refusal (judge_of net) n 0 (whole (targets_of classes)) ls ≡ None
    → IsCertificate net classes ls
certificate_only net classes n ls is_net rs e =
    let ts = targets_of classes in
    let right = right_only (judge_of net) ts (map reading_of ls) (no_fault (judge_of net) n 0 (whole ts) ls e) in
    let written = are_lines ls (certificate_items right.0 ts right.1) right.2 in
    let sound = all_sound net is_net right.0 ts right.1 rs right.3 in
    let made = sound_of net classes right.1 sound.0 in
    record {
      version = right.0;
      trees = made.0;
      each = made.2;
      sound = made.1;
      counted = subst (λ xs. right.0 ≡ One → AllByRecursion AllCounted xs) made.3 sound.2;
      shallow = subst (λ xs. AllByRecursion (IsShallow 0) xs) made.3 sound.1;
      lines_are = subst (λ xs. ls ≡ map item_line (certificate_items right.0 ts xs)) made.3 written.0;
      writable = subst (λ xs. AllByRecursion IsWritable (certificate_items right.0 ts xs)) made.3 written.1;
      few = subst (λ xs. sizes xs ≤ line_limit) made.3 right.4;
    }

pub certificate_all : (net : Net) (classes : List Class) (n : ℕ) (ls : List Line) → IsNetwork net
    → AreRegions (targets_of classes) → IsCertificate net classes ls
    → first_refusal (judge_of net) n 0 (whole (targets_of classes)) ls ≡ None
certificate_all net classes n ls is_net rs c =
    let ts = targets_of classes in
    let xs = in_a_row c.trees in
    no_refusal (judge_of net) n 0 (whole ts) ls
    (ap (verdict (judge_of net) 0 (whole ts))
    (ap (map reading_of) c.lines_are ∙ say_items (certificate_items c.version ts xs) c.writable)
    ∙ right_all (judge_of net) c.version ts xs
    (all_right net is_net c.version ts xs rs (sound_back net classes c.trees c.each c.sound) c.counted c.shallow)
    c.few)

-- ---- the headline

pub certified_once : (net : Net) (classes : List Class) (ls : List Line) → IsNetwork net → IsCertificate net classes ls
    → ExactlyOnce net classes
certified_once net classes ls is_net c = headline.exactly_once net classes c.trees is_net c.sound

pub certified_modulo : (net : Net) (classes : List Class) (ls : List Line) → IsNetwork net
    → IsCertificate net classes ls → OnceModulo net classes
certified_modulo net classes ls is_net c = headline.once_modulo net classes c.trees is_net c.sound
