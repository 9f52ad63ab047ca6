-- How a run goes on from line to line.
use Rattle.std.proofs.Common.{◌≡◌, ℕ, ◌<◌, ◌≤◌, List, [], ◌++◌, length, sym, ap, ◌∙◌, subst, arith}
use Rattle.std.proofs.lemmas.List.{append-nil, append_assoc}
use Rattle.script.specs.Answering.{LineAnswer, Opens}
use Rattle.script.specs.Lines.{Bounded}
use Rattle.script.specs.Texts.{bad_text}
use Rattle.script.specs.declared.session.Session.{Session}
use Rattle.stream.specs.Runs.{Answered, Answers, Appended, Run, begun, between, onward}

pub run_none : (input : List ℕ) (first : Session) (out : List ℕ) → Appended (Run input first 0 first) out out
run_none input first out = record { text = []; so = begun; whole = sym (append-nil out) }

pub run_more : (input : List ℕ) (first : Session) {from : ℕ} {was is : Session} (end next : ℕ) {before so_far after : List ℕ} → Appended (Run input first from was) before so_far → Bounded input from end next → Appended (LineAnswer was (between input from end) from is) so_far after → Appended (Run input first next is) before after
run_more input first {is = is} end next {before} run bounded more =
    record {
      text = run.text ++ more.text;
      so = onward run.so end next bounded is more.text more.so;
      whole = more.whole ∙ (ap (λ t. t ++ more.text) run.whole ∙ append_assoc before run.text more.text);
    }

pub run_all : (input : List ℕ) {first last : Session} {from : ℕ} {before after : List ℕ} → Opens 1 first → from ≤ length input → length input ≤ from → Appended (Run input first from last) before after → Appended (Answered input) before after
run_all input {first} {last} {from} opens inside through run =
    let P : ℕ → Type 0 = λ n. Run input first n last run.text in
    let e : from ≡ length input = omega arith in
    record { text = run.text; so = record { first = first; opens = opens; last = last; run = subst P e run.so }; whole = run.whole }

pub read_whole : (input : List ℕ) {before after : List ℕ} → length input ≤ 8192 → Appended (Answered input) before after → Appended (Answers input) before after
read_whole input short done = record {
  text = done.text;
  so = record { read = λ _. done.so; refused = λ long. absurd (omega (arith, short, long)) };
  whole = done.whole;
}

pub refused_whole : (input : List ℕ) {before after : List ℕ} → 8192 < length input → Appended (λ text. text ≡ bad_text 8192) before after → Appended (Answers input) before after
refused_whole input long done = record {
  text = done.text;
  so = record { read = λ short. absurd (omega (arith, short, long)); refused = λ _. done.so };
  whole = done.whole;
}
