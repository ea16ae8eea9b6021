use Rattle.std.proofs.Common.{◌∙◌, ap, sym, arith, Some, None, take, drop}
use Rattle.std.proofs.lemmas.Str.Pattern.{find_char}
use Rattle.sig_stream.proofs.Cuts.{drop_all, found_place, no_place, take_all}
use Rattle.sig_stream.proofs.endpoint.cut_at_path.Goals as goal

pub returns-in-Some-clause-before : goal.returns-in-Some-clause-before
returns-in-Some-clause-before c =
    let found = find_char 47 c.args.text.now (Some c.in-Some.at) c.in-Some.ensures.cases (omega arith) in
    c.split_at.ensures.front ∙ ap (λ n. take n c.args.text.now) (sym (found_place 47 c.args.text.now c.in-Some.at found.0 found.1 found.2))

pub returns-in-Some-clause-from : goal.returns-in-Some-clause-from
returns-in-Some-clause-from c =
    let found = find_char 47 c.args.text.now (Some c.in-Some.at) c.in-Some.ensures.cases (omega arith) in
    c.split_at.ensures.back ∙ ap (λ n. drop n c.args.text.now) (sym (found_place 47 c.args.text.now c.in-Some.at found.0 found.1 found.2))

pub returns-in-None-clause-before : goal.returns-in-None-clause-before
returns-in-None-clause-before c =
    let none = find_char 47 c.args.text.now None c.in-None.ensures.cases (omega arith) in
    sym (take_all c.args.text.now) ∙ ap (λ n. take n c.args.text.now) (sym (no_place 47 c.args.text.now none))

pub returns-in-None-clause-from : goal.returns-in-None-clause-from
returns-in-None-clause-from c =
    let none = find_char 47 c.args.text.now None c.in-None.ensures.cases (omega arith) in
    sym (drop_all c.args.text.now) ∙ ap (λ n. drop n c.args.text.now) (sym (no_place 47 c.args.text.now none))
