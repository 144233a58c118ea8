-- The words at the front of a line: how it is cut, and what it is joined of.
use Rattle.std.proofs.Common.{◌≡◌, ℕ, Bool, true, false, not, cond, List, [], ◌∷◌, ◌++◌, refl, ap, sym, ◌∙◌, subst, append-nil}
use Rattle.std.specs.List.{list_all}
use Rattle.std.proofs.lemmas.Bool.{not-true}
use Rattle.script_read.specs.Lines.{behind_word, first_word, from_blank, is_blank}
use Rattle.script_read.specs.Parted.{AreBlanks, IsWord, Parted, last_word, before_rest, more_words, begins_word}
use Rattle.script_read.proofs.Fronts.{Parts, and_both, front_dropped, front_taken, parts_of, stops}
use Rattle.script_read.proofs.Names.{and_left, and_right}

abbrev unblank : ℕ → Bool
unblank byte = not (is_blank byte)

-- ---- blanks

pub skipped : (gap text : List ℕ) → list_all is_blank gap ≡ true → begins_word text ≡ true → from_blank (gap ++ text) ≡ text
skipped [] [] h b = refl
skipped [] (x ∷ text) h b = ap (λ v. cond v (from_blank text) (x ∷ text)) (not-true (is_blank x) b)
skipped (x ∷ gap) text h b =
    ap (λ v. cond v (from_blank (gap ++ text)) (x ∷ (gap ++ text))) (and_left (is_blank x) (list_all is_blank gap) h)
    ∙ skipped gap text (and_right (is_blank x) (list_all is_blank gap) h) b

-- the blanks at the front of a text
pub record Gap (text : List ℕ) : Type 0 where
  pub gap : List ℕ
  pub joined : text ≡ gap ++ from_blank text
  pub blank : list_all is_blank gap ≡ true
  pub begun : begins_word (from_blank text) ≡ true

pub gap_of : (text : List ℕ) → Gap text
gap_of [] = record { gap = []; joined = refl; blank = refl; begun = refl }
gap_of (b ∷ text) = by (gap_of text) (is_blank b) refl
  where
    from : (v : Bool) → is_blank b ≡ v → from_blank (b ∷ text) ≡ cond v (from_blank text) (b ∷ text)
    from v e = ap (λ w. cond w (from_blank text) (b ∷ text)) e

    by : Gap text → (v : Bool) → is_blank b ≡ v → Gap (b ∷ text)
    by more true e = record {
      gap = b ∷ more.gap;
      joined = ap (λ l. b ∷ l) more.joined ∙ ap (λ l. b ∷ (more.gap ++ l)) (sym (from true e));
      blank = and_both (is_blank b) (list_all is_blank more.gap) e more.blank;
      begun = subst (λ l. begins_word l ≡ true) (sym (from true e)) more.begun;
    }
    by more false e = record {
      gap = [];
      joined = sym (from false e);
      blank = refl;
      begun = subst (λ l. begins_word l ≡ true) (sym (from false e)) (ap not e);
    }

-- ---- a line that is joined of words is cut into them

word_stops : (gap rest : List ℕ) → AreBlanks gap → stops unblank (gap ++ rest) ≡ true
word_stops [] rest h = absurd (h.some refl)
word_stops (b ∷ gap) rest h = ap (λ v. not (not v)) (and_left (is_blank b) (list_all is_blank gap) h.blank)

end_stops : (gap : List ℕ) → list_all is_blank gap ≡ true → stops unblank gap ≡ true
end_stops [] h = refl
end_stops (b ∷ gap) h = ap (λ v. not (not v)) (and_left (is_blank b) (list_all is_blank gap) h)

word_begins : (word back : List ℕ) → IsWord word → begins_word (word ++ back) ≡ true
word_begins [] back h = absurd (h.some refl)
word_begins (b ∷ word) back h = and_left (unblank b) (list_all unblank word) h.whole

word_some : (word back text : List ℕ) → IsWord word → text ≡ word ++ back → text ≡ [] → ⊥
word_some [] back text h is e = h.some refl
word_some (b ∷ word) back text h is e = cc

parted_some : (words : List (List ℕ)) (rest text : List ℕ) → Parted words rest text → text ≡ [] → ⊥
parted_some _ _ _ (last_word word gap text w g is) = word_some word gap text w is
parted_some _ _ _ (before_rest word gap rest text w g some b is) = word_some word (gap ++ rest) text w is
parted_some _ _ _ (more_words word gap behind text rest words w g h is) = word_some word (gap ++ behind) text w is

parted_begins : (words : List (List ℕ)) (rest text : List ℕ) → Parted words rest text → begins_word text ≡ true
parted_begins _ _ _ (last_word word gap text w g is) = subst (λ l. begins_word l ≡ true) (sym is) (word_begins word gap w)
parted_begins _ _ _ (before_rest word gap rest text w g some b is) = subst (λ l. begins_word l ≡ true) (sym is) (word_begins word (gap ++ rest) w)
parted_begins _ _ _ (more_words word gap behind text rest words w g h is) = subst (λ l. begins_word l ≡ true) (sym is) (word_begins word (gap ++ behind) w)

none_parted : (words : List (List ℕ)) (rest text : List ℕ) → Parted words rest text → words ≡ [] → ⊥
none_parted _ _ _ (last_word word gap text w g is) e = cc
none_parted _ _ _ (before_rest word gap rest text w g some b is) e = cc
none_parted _ _ _ (more_words word gap behind text rest words w g h is) e = cc

abbrev pub first_of : List (List ℕ) → List ℕ
first_of [] = []
first_of (word ∷ words) = word

first_joined : (word back text : List ℕ) → IsWord word → stops unblank back ≡ true → text ≡ word ++ back → first_word text ≡ word
first_joined word back text w s is = ap first_word is ∙ front_taken unblank word back w.whole s

behind_joined : (word back text : List ℕ) → IsWord word → stops unblank back ≡ true → text ≡ word ++ back → behind_word text ≡ from_blank back
behind_joined word back text w s is = ap behind_word is ∙ ap from_blank (front_dropped unblank word back w.whole s)

-- its first word
pub parted_first : (words : List (List ℕ)) (rest text : List ℕ) → Parted words rest text → first_word text ≡ first_of words
parted_first _ _ _ (last_word word gap text w g is) = first_joined word gap text w (end_stops gap g) is
parted_first _ _ _ (before_rest word gap rest text w g some b is) = first_joined word (gap ++ rest) text w (word_stops gap rest g) is
parted_first _ _ _ (more_words word gap behind text rest words w g h is) = first_joined word (gap ++ behind) text w (word_stops gap behind g) is

-- what stands behind it
abbrev pub Behind : List (List ℕ) → List ℕ → List ℕ → Type 0
Behind [] rest behind = Unit {0}
Behind (word ∷ []) rest behind = behind ≡ rest
Behind (word ∷ (next ∷ words)) rest behind = Parted (next ∷ words) rest behind

behind_more : (word : List ℕ) (words : List (List ℕ)) (rest text behind : List ℕ) → behind_word text ≡ behind → Parted words rest behind → Behind (word ∷ words) rest (behind_word text)
behind_more word [] rest text behind is h = absurd (none_parted [] rest behind h refl)
behind_more word (next ∷ words) rest text behind is h = subst (λ b. Parted (next ∷ words) rest b) (sym is) h

pub parted_behind : (words : List (List ℕ)) (rest text : List ℕ) → Parted words rest text → Behind words rest (behind_word text)
parted_behind _ _ _ (last_word word gap text w g is) =
    behind_joined word gap text w (end_stops gap g) is ∙ ap from_blank (sym (append-nil gap)) ∙ skipped gap [] g refl
parted_behind _ _ _ (before_rest word gap rest text w g some b is) = behind_joined word (gap ++ rest) text w (word_stops gap rest g) is ∙ skipped gap rest g.blank b
parted_behind _ _ _ (more_words word gap behind text rest words w g h is) =
    behind_more word words rest text behind (behind_joined word (gap ++ behind) text w (word_stops gap behind g) is ∙ skipped gap behind g.blank (parted_begins words rest behind h)) h

-- ---- a line that is cut is joined of its words

-- a line as its first word, blanks, and what stands behind them
pub record Cut (text : List ℕ) : Type 0 where
  pub word : List ℕ
  pub gap : List ℕ
  pub joined : text ≡ word ++ (gap ++ behind_word text)
  pub first : first_word text ≡ word
  pub whole : list_all unblank word ≡ true
  pub blank : list_all is_blank gap ≡ true
  pub begun : begins_word (behind_word text) ≡ true
  pub parts : (behind_word text ≡ [] → ⊥) → gap ≡ [] → ⊥

module _ (text : List ℕ) (p : Parts unblank text) where
  front_is : first_word text ≡ p.front
  front_is = ap first_word p.joined ∙ front_taken unblank p.front p.back p.passes p.ends

  back_is : behind_word text ≡ from_blank p.back
  back_is = ap behind_word p.joined ∙ ap from_blank (front_dropped unblank p.front p.back p.passes p.ends)

parts_gap : (back : List ℕ) → stops unblank back ≡ true → (g : Gap back) → g.gap ≡ [] → from_blank back ≡ []
parts_gap [] s g e = refl
parts_gap (b ∷ back) s g e =
    let same : b ∷ back ≡ from_blank (b ∷ back) = g.joined ∙ ap (λ l. l ++ from_blank (b ∷ back)) e in
    let no : not (is_blank b) ≡ true = subst (λ l. begins_word l ≡ true) (sym same) g.begun in
    absurd (cc)

pub cut_of : (text : List ℕ) → Cut text
cut_of text =
    let p = parts_of unblank text in
    let g = gap_of p.back in
    record {
      word = p.front;
      gap = g.gap;
      joined = p.joined ∙ ap (λ l. p.front ++ l) (g.joined ∙ ap (λ l. g.gap ++ l) (sym (back_is text p)));
      first = front_is text p;
      whole = p.passes;
      blank = g.blank;
      begun = subst (λ l. begins_word l ≡ true) (sym (back_is text p)) g.begun;
      parts = λ some none. some (back_is text p ∙ parts_gap p.back p.ends g none);
    }

module _ (text word : List ℕ) (first : first_word text ≡ word) (some : word ≡ [] → ⊥) where
  cut_word : IsWord word
  cut_word = record { some = some; whole = subst (λ w. list_all unblank w ≡ true) (sym (cut_of text).first ∙ first) (cut_of text).whole }

  cut_joined : text ≡ word ++ ((cut_of text).gap ++ behind_word text)
  cut_joined = (cut_of text).joined ∙ ap (λ w. w ++ ((cut_of text).gap ++ behind_word text)) (sym (cut_of text).first ∙ first)

  pub word_alone : behind_word text ≡ [] → Parted (word ∷ []) [] text
  word_alone none = last_word word (cut_of text).gap text cut_word (cut_of text).blank (cut_joined ∙ ap (λ l. word ++ ((cut_of text).gap ++ l)) none ∙ ap (λ l. word ++ l) (append-nil (cut_of text).gap))

  gap_blanks : (behind_word text ≡ [] → ⊥) → AreBlanks (cut_of text).gap
  gap_blanks filled = record { some = (cut_of text).parts filled; blank = (cut_of text).blank }

  -- what stands behind the word
  pub word_then : Parted (word ∷ []) (behind_word text) text
  word_then = by (behind_word text) refl
    where
      by : (behind : List ℕ) → behind_word text ≡ behind → Parted (word ∷ []) (behind_word text) text
      by [] e = subst (λ r. Parted (word ∷ []) r text) (sym e) (word_alone e)
      by (x ∷ xs) e = before_rest word (cut_of text).gap (behind_word text) text cut_word (gap_blanks (λ k. cc)) (λ k. cc) (cut_of text).begun cut_joined

  pub word_beside : (words : List (List ℕ)) (rest : List ℕ) → Parted words rest (behind_word text) → Parted (word ∷ words) rest text
  word_beside words rest h = more_words word (cut_of text).gap (behind_word text) text rest words cut_word (gap_blanks (parted_some words rest (behind_word text) h)) h cut_joined
