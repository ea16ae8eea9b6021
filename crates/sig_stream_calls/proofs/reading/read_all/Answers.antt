use Rattle.std.proofs.Common.{◌≡◌, ◌∙◌, ap, subst, sym, List, map, None}
use Rattle.sig_json.specs.Answers.{Answers, result_map}
use Rattle.sig_terms.specs.declared.answer.Answer.TheVariants as answer
use Rattle.sig_terms.specs.declared.configuration.StreamConf.{StreamConf}
use Rattle.sig_terms.specs.declared.fault.PrepareFault.TheVariants.{Memory}
use Rattle.sig_calls.specs.Configuring.{confs_of}
use Rattle.sig_calls.specs.Told.{only, outcome, with_change}
use Rattle.sig_accounts.specs.Owings.{Owing, stream_in}
use Rattle.sig_ledger.specs.Books.{sum_in}
use Rattle.sig_ledger.specs.Steps.{reply_in}
use Rattle.sig_accounts.proofs.FoundLemmas.{book_streams}
use Rattle.sig_stream_calls.specs.declared.turn.Turn.{Turn}
use Rattle.sig_stream_calls.proofs.reading.read_all.Goals as goal

pub returns-clause-answers : goal.returns-clause-answers
returns-clause-answers c =
    let confs : c.in_ok-confs.confs ≡ confs_of c.args.client.now (sum_in c.args.ledger.now.books).parts.streams =
    c.in_ok-confs.ensures ∙ ap (λ (os : List Owing). confs_of c.args.client.now (map stream_in os)) c.accounts.ensures.accounts
    ∙ ap (confs_of c.args.client.now) (sym (book_streams c.args.ledger.now.books.store_id c.args.ledger.now.books.published c.args.ledger.now.books.owings)) in
    subst (λ (l : List StreamConf). Answers Memory (result_map reply_in c.finish.result) (outcome (only (answer.Confs l)))) confs
    (subst (λ (t : Turn). Answers Memory (result_map reply_in c.finish.result) (outcome (with_change t.answer t.change))) c.only.ensures c.finish.ensures.answers)
