-- What follows by the layers one by one is the smallest set that stands in all of them.
use Rattle.std.proofs.Common.{◌≡◌, ℕ, List, sym, ap, ◌∙◌, subst}
use lib.Bits.{bit_or, or_lt}
use Rattle.std.specs.List.{AllByRecursion}
use Rattle.sets.specs.Sets.{Has, Within, IsLines, Smallest}
use Rattle.sets.proofs.Lines.{or_has_left, or_has_right, or_within}
use Rattle.facts.specs.Given.{given}
use Rattle.facts.specs.Meaning.{Meaning, Lawful}
use Rattle.facts.specs.Steps.{IsStep, Closed, Follows, stepped}
use Rattle.facts.specs.declared.step.Step.{Step}
use Rattle.facts.specs.Giving.{or_part, given_lawful}
use Rattle.facts.specs.Stepping.{stepped_follows}
use Rattle.stack.specs.Stack.{Stands}

module _ (m : Meaning) (lawful : Lawful m) (inner : ℕ) (fits : IsLines inner) (steps : List Step) (outer asked : ℕ) where
  -- what the layers mean is what follows by them
  pub layers_follow : AllByRecursion IsStep steps → IsLines outer → IsLines asked → (r : ℕ) → r ≡ (given outer (stepped steps (given inner m))).follow asked → Follows (given inner m) steps (bit_or asked outer) r
  layers_follow are lo la r e =
      subst (Follows (given inner m) steps (bit_or asked outer)) (sym e)
      (stepped_follows (given inner m) (given_lawful inner m fits lawful) steps are (bit_or asked outer) (or_lt 64 asked outer la lo))

  -- a set that the facts leave as it is, asked together with the inner set, has the inner set
  inner_in : (s : ℕ) → IsLines s → m.follow (bit_or s inner) ≡ s → Within inner s
  inner_in s l e n h = subst (λ x. Has x n) e (lawful.keeps (bit_or s inner) (or_lt 64 s inner l fits) n (or_has_right s inner n h))

  stands_from : (s : ℕ) → IsLines s → Closed (given inner m) steps (bit_or asked outer) s → Stands m inner steps outer asked s
  stands_from s l c =
      let has = inner_in s l c.left in
      record {
        starts = λ n h. c.starts n (or_has_left asked outer n h);
        has_outer = λ n h. c.starts n (or_has_right asked outer n h);
        has_inner = has;
        left = ap m.follow (sym (or_part s inner has)) ∙ c.left;
        obeys = c.obeys;
      }

  closed_from : (s : ℕ) → Stands m inner steps outer asked s → Closed (given inner m) steps (bit_or asked outer) s
  closed_from s st = record {
    starts = or_within asked outer s st.starts st.has_outer;
    left = ap m.follow (or_part s inner st.has_inner) ∙ st.left;
    obeys = st.obeys;
  }

  pub stands_least : (s : ℕ) → Follows (given inner m) steps (bit_or asked outer) s → Smallest (Stands m inner steps outer asked) s
  stands_least s f = record {
    lines = f.lines;
    has = stands_from s f.lines f.has;
    least = λ t l st. f.least t l (closed_from t st);
  }
