-- Laws of what a sink has taken after several writes. (This project's own.)
use Rattle.std.proofs.Common.{◌≡◌, ℕ, List, [], ◌++◌, Option, None, Some, refl, sym, ap, ◌∙◌, append_assoc}
use Rattle.std.proofs.lemmas.List.{append-nil}
use Rattle.edge_io.specs.Written.{appended, WroteFront}

-- one piece behind another
pub appended-appended : (before : Option (List ℕ)) (xs ys : List ℕ) → appended (appended before xs) ys ≡ appended before (xs ++ ys)
appended-appended None xs ys = refl
appended-appended (Some before) xs ys = ap (λ (l : List ℕ). Some l) (append_assoc before xs ys)

pub appended-nil : (before : Option (List ℕ)) → appended before [] ≡ before
appended-nil None = refl
appended-nil (Some before) = ap (λ (l : List ℕ). Some l) (append-nil before)

-- nothing was written
pub front_none : (before : Option (List ℕ)) (text : List ℕ) → WroteFront before before text
front_none before text = record { front = []; left = text; parts = refl; took = sym (appended-nil before) }

-- a front of the first piece
pub front_first : {before now : Option (List ℕ)} (piece rest : List ℕ) → WroteFront before now piece → WroteFront before now (piece ++ rest)
front_first piece rest wrote = record {
  front = wrote.front;
  left = wrote.left ++ rest;
  parts = sym (append_assoc wrote.front wrote.left rest) ∙ ap (λ l. l ++ rest) wrote.parts;
  took = wrote.took;
}

-- a front of the last piece
pub front_last : {before mid now : Option (List ℕ)} (sofar piece : List ℕ) → mid ≡ appended before sofar → WroteFront mid now piece → WroteFront before now (sofar ++ piece)
front_last {before} {mid} {now} sofar piece was wrote = record {
  front = sofar ++ wrote.front;
  left = wrote.left;
  parts = append_assoc sofar wrote.front wrote.left ∙ ap (λ l. sofar ++ l) wrote.parts;
  took = wrote.took ∙ ap (λ w. appended w wrote.front) was ∙ appended-appended before sofar wrote.front;
}

-- a front of a piece, behind what was there, and before the rest
pub front_more : {before mid now : Option (List ℕ)} (sofar piece rest : List ℕ) → mid ≡ appended before sofar → WroteFront mid now piece → WroteFront before now (sofar ++ (piece ++ rest))
front_more {before} {mid} {now} sofar piece rest was wrote = record {
  front = sofar ++ wrote.front;
  left = wrote.left ++ rest;
  parts = append_assoc sofar wrote.front (wrote.left ++ rest) ∙ ap (λ l. sofar ++ l) (sym (append_assoc wrote.front wrote.left rest) ∙ ap (λ l. l ++ rest) wrote.parts);
  took = wrote.took ∙ ap (λ w. appended w wrote.front) was ∙ appended-appended before sofar wrote.front;
}
