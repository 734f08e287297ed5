-- A part's texts, taken one after another.
use Rattle.std.proofs.Common.{◌≡◌, ℕ, Bool, true, false, List, [], ◌∷◌, ◌++◌, length, codes, Option, Some, None, IfSome, option_and_then, option_map, refl, sym, ap, ◌∙◌, append_assoc}
use Rattle.std.specs.Io.KnownBytes.{prepend_known}
use Rattle.fx_base.proofs.GoingOn.{something_left}
use Rattle.fx_base.specs.Device.{MayBeLeft}
use Rattle.fx_base.specs.Lines.{line_len, text_lines}
use Rattle.fx_join.specs.PartTexts.{PartText, TextLine, first_part, first_text, is_command, is_line, three_texts, with_certificate, with_traffic}
use Rattle.fx_join.specs.Taking.{Dividing, LacksFirst, TakesFirst}
use Rattle.fx_join.proofs.Taken.{left_behind, nothing_behind, taken_with}
use Rattle.fx_join.proofs.Texts.{line_alone, line_and_feed, no_feed}

behind_both : (a b rest : List ℕ) → text_lines ((a ++ b) ++ rest) ≡ text_lines (a ++ (b ++ rest))
behind_both a b rest = ap text_lines (append_assoc a b rest)

-- ---- three texts

pub three_taken : (old first second new : Option (List ℕ)) (network traffic certificate : List ℕ)
    → TakesFirst first_text old first network → TakesFirst first_text first second traffic
    → TakesFirst first_text second new certificate
    → TakesFirst three_texts old new
    (record { network = network; traffic = traffic; certificate = certificate })
three_taken old first second new network traffic certificate n t c = record {
  taken = n.taken ++ (t.taken ++ c.taken);
  before = taken_with n.taken (t.taken ++ c.taken) old first new
      (taken_with t.taken c.taken first second new c.before t.before) n.before;
  is_first = λ rest.
      let one = ap first_text (behind_both n.taken (t.taken ++ c.taken) rest) ∙ n.is_first
      ((t.taken ++ c.taken) ++ rest) in
      let two = ap first_text (behind_both t.taken c.taken rest) ∙ t.is_first (c.taken ++ rest) in
      ap (option_and_then (λ found. with_traffic found.0 found.1)) one
      ∙ ap (option_and_then (λ found. with_certificate network found.0 found.1)) two
      ∙ ap (option_map (λ found. (the_part found.0, found.1))) (c.is_first rest);
}
  where
    the_part : List ℕ → PartText
    the_part text = record { network = network; traffic = traffic; certificate = text }

-- a text is missing
pub first_missing : (old : Option (List ℕ)) → LacksFirst first_text old → LacksFirst three_texts old
first_missing old lacks = record {
  octets = lacks.octets;
  left = lacks.left;
  none = ap (option_and_then (λ found. with_traffic found.0 found.1)) lacks.none;
}

pub second_missing : (old first : Option (List ℕ)) (network : List ℕ) → TakesFirst first_text old first network
    → LacksFirst first_text first → LacksFirst three_texts old
second_missing old first network n lacks = record {
  octets = n.taken ++ lacks.octets;
  left = left_behind n.taken lacks.octets old first n.before lacks.left;
  none = ap (option_and_then (λ found. with_traffic found.0 found.1)) (n.is_first lacks.octets)
      ∙ ap (option_and_then (λ found. with_certificate network found.0 found.1)) lacks.none;
}

pub third_missing : (old first second : Option (List ℕ)) (network traffic : List ℕ)
    → TakesFirst first_text old first network → TakesFirst first_text first second traffic
    → LacksFirst first_text second → LacksFirst three_texts old
third_missing old first second network traffic n t lacks = record {
  octets = n.taken ++ (t.taken ++ lacks.octets);
  left = left_behind n.taken (t.taken ++ lacks.octets) old first n.before
      (left_behind t.taken lacks.octets first second t.before lacks.left);
  none = ap (option_and_then (λ found. with_traffic found.0 found.1)) (n.is_first (t.taken ++ lacks.octets))
      ∙ ap (option_and_then (λ found. with_certificate network found.0 found.1)) (t.is_first lacks.octets)
      ∙ ap (option_map (λ found. (the_part found.0, found.1))) lacks.none;
}
  where
    the_part : List ℕ → PartText
    the_part text = record { network = network; traffic = traffic; certificate = text }

-- ---- a part

-- the octets of a line that is ended
abbrev pub EndsLine : List ℕ → List ℕ → Type 0
EndsLine line octets = (octets ≡ line ++ 10 ∷ []) × (line_len line ≡ length line)

pub part_taken : (old first new : Option (List ℕ)) (line octets : List ℕ) (part : PartText) → EndsLine line octets
    → is_command (line, true) ≡ true → prepend_known octets first ≡ old → TakesFirst three_texts first new part
    → TakesFirst first_part old new part
part_taken old first new line octets part ends command before texts = record {
  taken = octets ++ texts.taken;
  before = taken_with octets texts.taken old first new texts.before before;
  is_first = λ rest.
      ap first_part (behind_both octets texts.taken rest)
      ∙ rw (ends.0, line_and_feed line (texts.taken ++ rest) ends.1) (rw command (texts.is_first rest));
}

-- a part's line that its texts don't follow, or another line
pub texts_missing : (old first : Option (List ℕ)) (line octets : List ℕ) → EndsLine line octets
    → is_command (line, true) ≡ true → prepend_known octets first ≡ old → LacksFirst three_texts first
    → (lacks : LacksFirst first_part old) × (text_lines lacks.octets ≡ [] → ⊥)
texts_missing old first line octets ends command before texts =
    let lines : text_lines (octets ++ texts.octets) ≡ (line, true) ∷ text_lines texts.octets =
    rw ends.0 (line_and_feed line texts.octets ends.1) in (
      record {
        octets = octets ++ texts.octets;
        left = left_behind octets texts.octets old first before texts.left;
        none = rw lines (rw command texts.none);
      },
      λ empty. some_line (sym lines ∙ empty),
    )
  where
    some_line : {x : TextLine} {xs : List TextLine} → x ∷ xs ≡ [] → ⊥
    some_line e = absurd (cc)

pub no_command : (old first : Option (List ℕ)) (line octets : List ℕ) → EndsLine line octets
    → is_command (line, true) ≡ false → prepend_known octets first ≡ old
    → (lacks : LacksFirst first_part old) × (text_lines lacks.octets ≡ [] → ⊥)
no_command old first line octets ends other before =
    let some = something_left first in
    let lines : text_lines (octets ++ some.0) ≡ (line, true) ∷ text_lines some.0 =
    rw ends.0 (line_and_feed line some.0 ends.1) in (
      record {
        octets = octets ++ some.0;
        left = left_behind octets some.0 old first before some.1;
        none = rw lines (rw other refl);
      },
      λ empty. some_line (sym lines ∙ empty),
    )
  where
    some_line : {x : TextLine} {xs : List TextLine} → x ∷ xs ≡ [] → ⊥
    some_line e = absurd (cc)

-- the last line, without a line feed
pub line_cut : (old new : Option (List ℕ)) (line : List ℕ) → line_len line ≡ length line → (line ≡ [] → ⊥)
    → prepend_known line new ≡ old → IfSome new (λ rest. rest ≡ [])
    → (lacks : LacksFirst first_part old) × (text_lines lacks.octets ≡ [] → ⊥)
line_cut old new [] one some before end = absurd (some refl)
line_cut old new (b ∷ bs) one some before end =
    let lines = line_alone b bs one in (
      record {
        octets = b ∷ bs;
        left = nothing_behind (b ∷ bs) old new before end;
        none = rw lines (rw (no_feed (codes "check") (b ∷ bs) one) refl);
      },
      λ empty. some_line (sym lines ∙ empty),
    )
  where
    some_line : {x : TextLine} {xs : List TextLine} → x ∷ xs ≡ [] → ⊥
    some_line e = absurd (cc)
