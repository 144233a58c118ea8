-- What a fetch found, and what bytes are read as.
use Rattle.std.proofs.Common.{◌≡◌, ◌<◌, ◌+◌, ℕ, List, [], length, Result, Ok, Err, IfErr, IfSome, Option, None, Some, refl, subst, arith, append-nil, replicate}
use Rattle.std.specs.Prelude.{IsSomeAnd}
use Rattle.std.proofs.lemmas.Bool.{lt-ltb}
use Rattle.std.proofs.lemmas.List.{length-replicate}
use Rattle.edge_io.specs.Told.{Tells}
use Rattle.edge_io.specs.declared.library.Fetched.TheVariants.{Whole, PastLimit}
use Rattle.match_rule.specs.Gains.{Gains, gains_none}
use Rattle.script_read.specs.Expects.{Gathers, RefusesOnLine}
use Rattle.script_read.specs.Lines.{lines_of}
use Rattle.script_read.specs.Outcomes.{GivesWith, PatternList, then_give}
use Rattle.script_read.specs.Reading.{reading}
use Rattle.script_read.specs.Refusals.{limit}
use Rattle.script_read.specs.Views.{script_seen}
use Rattle.script_read.specs.declared.fault.ReadFault.{ReadFault}
use Rattle.script_read.specs.declared.fault.ReadFault.TheVariants as read
use Rattle.script_read.specs.declared.script.Script.{Script}
use Rattle.script_read.specs.declared.script.ScriptRefusal.TheVariants.{TooLarge}
use Rattle.promql_tool.specs.Chosen.{Terms}
use Rattle.promql_tool.specs.Found.{Have, IsFound}
use Rattle.promql_tool.specs.Reading.{IsReadAs, IsRefusedFor, unread}
use Rattle.promql_tool.specs.Runs.{GivesFile, Stops}
use Rattle.promql_tool.specs.declared.fault.Refusal.TheVariants as refusal
use Rattle.promql_tool.specs.declared.fault.Stop.TheVariants.{Refused}

-- what the reader answers with the patterns that it keeps
pub file_read : (kept : PatternList) (bytes : List ℕ) (r : Result Script ReadFault) → GivesWith (then_give r script_seen) kept (λ k. reading k bytes) → IfErr r (RefusesOnLine kept (lines_of bytes))
    → Gathers (lines_of bytes) [] kept → Gains [] kept → GivesFile r (IsReadAs kept bytes)
file_read kept bytes (Ok script) said refused gathers gains = record {
  gathers = gathers;
  gains = gains;
  says = subst (λ (k : PatternList). reading k bytes ≡ Ok (script_seen script)) (append-nil kept) (said []);
}
file_read kept bytes (Err (read.Refused refused)) said which gathers gains = record { gathers = gathers; gains = gains; says = (said, which) }
file_read kept bytes (Err read.Memory) said refused gathers gains = tt

-- a file that is too large
too_large : (terms : Terms) (bytes : List ℕ) → limit < length bytes → IsRefusedFor terms bytes (refusal.Script TooLarge)
too_large terms bytes lt = unread [] TooLarge (record {
  gathers = record {
    more = [];
    behind = refl;
    named = λ pattern at. absurd (omega (arith, at.1));
    readable = λ pattern at. absurd (omega (arith, at.1));
    few = λ few. few;
  };
  gains = gains_none [] [] refl;
  says = (rw (lt-ltb limit (length bytes) lt) refl, tt);
})

module _ (sound : Type 0) (path : List ℕ) where
  -- the bytes that were found are those that are told
  told_bytes : (told : Option (List ℕ → Option (List ℕ))) (bytes : List ℕ) → IfSome told (λ files. Have files path (Some bytes)) → IsFound told sound path (Some bytes)
  told_bytes told bytes h = record { if_some = h; if_sound = λ _. h }

  whole_told : (told : Option (List ℕ → Option (List ℕ))) (bytes : List ℕ) → IfSome told (λ files. Tells (files path) limit (Ok Whole) bytes) → IfSome told (λ files. Have files path (Some bytes))
  whole_told None bytes h = tt
  whole_told (Some files) bytes h = h.0

  pub whole_found : (told : Option (List ℕ → Option (List ℕ))) (bytes : List ℕ) → IfSome told (λ files. Tells (files path) limit (Ok Whole) bytes) → IsFound told sound path (Some bytes)
  whole_found told bytes tells = told_bytes told bytes (whole_told told bytes tells)

  past_limit : (most : ℕ) → most < length {A = ℕ} (replicate (most + 1) 0)
  past_limit most = omega (arith, length-replicate {A = ℕ} (most + 1) 0)

  past_there : (found : Option (List ℕ)) → IsSomeAnd found (λ bytes. limit < length bytes) → (bytes : List ℕ) × (found ≡ Some bytes) × (limit < length bytes)
  past_there None h = absurd h
  past_there (Some bytes) h = (bytes, refl, h)

  past_seen : (terms : Terms) (told : Option (List ℕ → Option (List ℕ))) (bytes : List ℕ) → limit < length bytes → IsFound told sound path (Some bytes) → Stops terms (IsFound told sound) path (Refused (refusal.Script TooLarge))
  past_seen terms told bytes long is_found = (bytes, is_found, too_large terms bytes long)

  -- a file of too many bytes, which aren't known where the library doesn't tell
  pub past_found : (terms : Terms) (told : Option (List ℕ → Option (List ℕ))) (into : List ℕ) → IfSome told (λ files. Tells (files path) limit (Ok PastLimit) into) → Stops terms (IsFound told sound) path (Refused (refusal.Script TooLarge))
  past_found terms None into h = past_seen terms None (replicate (limit + 1) 0) (past_limit limit) (record { if_some = tt; if_sound = λ _. tt })
  past_found terms (Some files) into h =
      let there = past_there (files path) h in
      past_seen terms (Some files) there.0 there.2 (told_bytes (Some files) there.0 there.1)

-- what a fetch finds in a later state of a library tells of the earlier one
pub found_since : (told was : Option (List ℕ → Option (List ℕ))) (sound then : Type 0) → told ≡ was → (then → sound) → (path : List ℕ) (x : Option (List ℕ)) → IsFound told sound path x → IsFound was then path x
found_since told was sound then same keeps path x h =
    subst (λ (t : Option (List ℕ → Option (List ℕ))). IsFound t then path x) same (record { if_some = h.if_some; if_sound = λ s. h.if_sound (keeps s) })
