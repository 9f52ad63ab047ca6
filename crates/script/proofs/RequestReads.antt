-- What the fields of a line are, if the line is the text of a fit request.
use Rattle.std.proofs.Common.{◌≡◌, ℕ, ◌-◌, ◌<◌, List, [], ◌∷◌, ◌++◌, ◌≢◌, length, get_or, take, drop, codes, decimal, Some, None, Option, sym, ap, ◌∙◌, subst, arith}
use Rattle.std.proofs.lemmas.List.{take_all}
use Rattle.std.specs.Option.{IsSomeAnd, MatchOption}
use Rattle.script.proofs.Parsing.{decimal_lacks, lacks_not, one_parting}
use Rattle.script.proofs.SetReads.{set_lacks}
use Rattle.script.specs.Reading.{Fit, Lacks, Parts, ReadsNumber, ReadsRequest, Short, request_text, set_text}
use Rattle.sets.proofs.Rows.{no_some}
use Rattle.sets.specs.Sets.{IsLines}
use Rattle.script.specs.declared.request.Request.{Request}
use Rattle.script.specs.declared.request.Request.TheVariants.{Step, Write, Strike, Rule, Unrule, List as Listing}

pub step_fields : (fields : List ℕ) (request : Request) → Fit request → codes "> " ++ fields ≡ request_text request → (needs : ℕ) × (gives : ℕ) × IsLines needs × Short gives × (fields ≡ set_text needs ++ (32 ∷ decimal gives))
step_fields fields (Step needs gives) fit e = (needs, gives, fit.0, fit.1, ap (drop 2) e)
step_fields fields (Write line words) fit e = absurd (omega (arith, ap (λ x. get_or x 0 0) e))
step_fields fields (Strike line) fit e = absurd (omega (arith, ap (λ x. get_or x 0 0) e))
step_fields fields (Rule place needs unless gives) fit e = absurd (omega (arith, ap (λ x. get_or x 0 0) e))
step_fields fields (Unrule place) fit e = absurd (omega (arith, ap (λ x. get_or x 0 0) e))
step_fields fields (Listing from) fit e = absurd (omega (arith, ap (λ x. get_or x 0 0) e))

pub write_fields : (fields : List ℕ) (request : Request) → Fit request → codes "+ " ++ fields ≡ request_text request → (line : ℕ) × (words : List ℕ) × Short line × (0 < length words) × Lacks 32 words × (fields ≡ decimal line ++ (32 ∷ words))
write_fields fields (Step needs gives) fit e = absurd (omega (arith, ap (λ x. get_or x 0 0) e))
write_fields fields (Write line words) fit e = (line, words.now, fit.0, fit.1, fit.2, ap (drop 2) e)
write_fields fields (Strike line) fit e = absurd (omega (arith, ap (λ x. get_or x 0 0) e))
write_fields fields (Rule place needs unless gives) fit e = absurd (omega (arith, ap (λ x. get_or x 0 0) e))
write_fields fields (Unrule place) fit e = absurd (omega (arith, ap (λ x. get_or x 0 0) e))
write_fields fields (Listing from) fit e = absurd (omega (arith, ap (λ x. get_or x 0 0) e))

pub rule_fields : (fields : List ℕ) (request : Request) → Fit request → codes ": " ++ fields ≡ request_text request → (place : ℕ) × (needs : ℕ) × (unless : ℕ) × (gives : ℕ) × (Short place × IsLines needs × IsLines unless × Short gives) × (fields ≡ decimal place ++ (32 ∷ (set_text needs ++ (32 ∷ (set_text unless ++ (32 ∷ decimal gives))))))
rule_fields fields (Step needs gives) fit e = absurd (omega (arith, ap (λ x. get_or x 0 0) e))
rule_fields fields (Write line words) fit e = absurd (omega (arith, ap (λ x. get_or x 0 0) e))
rule_fields fields (Strike line) fit e = absurd (omega (arith, ap (λ x. get_or x 0 0) e))
rule_fields fields (Rule place needs unless gives) fit e = (place, needs, unless, gives, fit, ap (drop 2) e)
rule_fields fields (Unrule place) fit e = absurd (omega (arith, ap (λ x. get_or x 0 0) e))
rule_fields fields (Listing from) fit e = absurd (omega (arith, ap (λ x. get_or x 0 0) e))

-- What the parts of the fields are then.

pub no_parts : {fields : List ℕ} (before after : List ℕ) → Lacks 32 fields → fields ≡ before ++ (32 ∷ after) → ⊥
no_parts {fields} before after clear e =
    let P : List ℕ → Type 0 = λ x. Lacks 32 x in lacks_not 32 before after (subst P e clear)

pub step_parts : {fields a b : List ℕ} → Parts fields 32 a b → (request : Request) → Fit request → codes "> " ++ fields ≡ request_text request → (needs : ℕ) × (gives : ℕ) × IsLines needs × Short gives × (a ≡ set_text needs) × (b ≡ decimal gives)
step_parts {fields} {a} {b} p request fit e =
    let f = step_fields fields request fit e in
    let both = one_parting 32 a b (set_text f.0) (decimal f.1) p.clear (set_lacks f.0) (sym p.whole ∙ f.4) in
    (f.0, f.1, f.2, f.3, both.0, both.1)

pub write_parts : {fields a b : List ℕ} → Parts fields 32 a b → (request : Request) → Fit request → codes "+ " ++ fields ≡ request_text request → (line : ℕ) × Short line × (0 < length b) × Lacks 32 b × (a ≡ decimal line)
write_parts {fields} {a} {b} p request fit e =
    let f = write_fields fields request fit e in
    let both = one_parting 32 a b (decimal f.0) f.1 p.clear (decimal_lacks f.0 32 f.2 (omega arith)) (sym p.whole ∙ f.5) in
    let P : List ℕ → Type 0 = λ x. (0 < length x) × Lacks 32 x in
    let words = subst P (sym both.1) (f.3, f.4) in
    (f.0, f.2, words.0, words.1, both.0)

-- the four fields of a rule, the last three still in one
pub record RuleParts (a rest : List ℕ) : Type 0 where
  pub place : ℕ
  pub needs : ℕ
  pub unless : ℕ
  pub gives : ℕ
  pub fit : Short place × IsLines needs × IsLines unless × Short gives
  pub is_place : a ≡ decimal place
  pub is_rest : rest ≡ set_text needs ++ (32 ∷ (set_text unless ++ (32 ∷ decimal gives)))

pub rule_parts : {fields a rest : List ℕ} → Parts fields 32 a rest → (request : Request) → Fit request → codes ": " ++ fields ≡ request_text request → RuleParts a rest
rule_parts {fields} {a} {rest} p request fit e =
    let f = rule_fields fields request fit e in
    let both = one_parting 32 a rest (decimal f.0) _ p.clear (decimal_lacks f.0 32 f.4.0 (omega arith)) (sym p.whole ∙ f.5) in
    record { place = f.0; needs = f.1; unless = f.2; gives = f.3; fit = f.4; is_place = both.0; is_rest = both.1 }

pub needs_part : {a rest b more : List ℕ} (r : RuleParts a rest) → Parts rest 32 b more → (b ≡ set_text r.needs) × (more ≡ set_text r.unless ++ (32 ∷ decimal r.gives))
needs_part {a} {rest} {b} {more} r p = one_parting 32 b more (set_text r.needs) _ p.clear (set_lacks r.needs) (sym p.whole ∙ r.is_rest)

pub unless_part : {a rest b more c d : List ℕ} (r : RuleParts a rest) → Parts rest 32 b more → Parts more 32 c d → (c ≡ set_text r.unless) × (d ≡ decimal r.gives)
unless_part {a} {rest} {b} {more} {c} {d} r p q =
    one_parting 32 c d (set_text r.unless) _ q.clear (set_lacks r.unless) (sym q.whole ∙ (needs_part r p).1)

-- a line by its first byte, the space after it and its fields
pub at_front : (x : ℕ) (line : List ℕ) (r : Option Request) → 1 < length line → get_or line 0 0 ≡ x → get_or line 1 0 ≡ 32 → ReadsRequest (x ∷ 32 ∷ take (length line - 2) (drop 2 line)) r → ReadsRequest line r
at_front x [] r long first second h = absurd (omega arith)
at_front x (a ∷ []) r long first second h = absurd (omega arith)
at_front x (a ∷ b ∷ rest) r long first second h =
    let P : List ℕ → Type 0 = λ l. ReadsRequest l r in
    let whole : take (length (a ∷ b ∷ rest) - 2) rest ≡ rest = take_all _ rest (omega arith) in
    let e : x ∷ 32 ∷ take (length (a ∷ b ∷ rest) - 2) rest ≡ a ∷ b ∷ rest = cc in
    subst P e h

-- Fields after a byte that asks for a number alone are a number, and the request is what the byte makes of it.

pub number_fields : (k : ℕ) (fields : List ℕ) (request : Request) → (k ≢ 43) × (k ≢ 58) × (k ≢ 62) → Fit request → k ∷ 32 ∷ fields ≡ request_text request → (n : ℕ) × Short n × (fields ≡ decimal n)
number_fields k fields (Step needs gives) other fit e = absurd (other.2 (ap (λ x. get_or x 0 0) e))
number_fields k fields (Write line words) other fit e = absurd (other.0 (ap (λ x. get_or x 0 0) e))
number_fields k fields (Strike line) other fit e = (line, fit, ap (drop 2) e)
number_fields k fields (Rule place needs unless gives) other fit e = absurd (other.1 (ap (λ x. get_or x 0 0) e))
number_fields k fields (Unrule place) other fit e = (place, fit, ap (drop 2) e)
number_fields k fields (Listing from) other fit e = (from, fit, ap (drop 2) e)

pub by_number : {Made : ℕ → Request → Type 0} (k : ℕ) (make : ℕ → Request) (fields : List ℕ) (number : Option ℕ) (r : Option Request) → (k ≢ 43) × (k ≢ 58) × (k ≢ 62) → ((n : ℕ) → Short n → Fit (make n) × (k ∷ 32 ∷ decimal n ≡ request_text (make n))) → ReadsNumber fields number → MatchOption number (r ≡ None) (λ n. IsSomeAnd r (Made n)) → ((n : ℕ) (q : Request) → Made n q → q ≡ make n) → ReadsRequest (k ∷ 32 ∷ fields) r
by_number k make fields None None other asks read made same = λ request fit e. let f = number_fields k fields request other fit e in read f.0 f.1 f.2
by_number k make fields None (Some q) other asks read made same = absurd (no_some (sym made))
by_number k make fields (Some n) None other asks read made same = absurd made
by_number k make fields (Some n) (Some q) other asks read made same =
    let P : Request → Type 0 = λ x. Fit x × (k ∷ 32 ∷ fields ≡ request_text x) in
    let a = asks n read.0 in
    subst P (sym (same n q made)) (a.0, ap (λ x. k ∷ 32 ∷ x) read.1 ∙ a.1)
