use Rattle.std.proofs.lemmas.Result.{on_ok_weaker}
use Rattle.sig_fields.specs.Kinds as kinds
use Rattle.sig_entry.specs.Parts as entry
use Rattle.sig_base.proofs.PutLemmas.{put_three}
use Rattle.sig_base.proofs.fields.TokenFieldField.put.Goals as goal

pub returns : goal.returns
returns c =
    on_ok_weaker c.put-3.result
    (put_three c.args.out.now.items (kinds.number_bytes c.args.value.now.number) (kinds.number_bytes c.args.value.now.iat) (entry.news_bytes c.args.value.now.news) _ _ _
    c.in_ok-put.ensures c.in_ok-put-2.ensures)
    c.put-3.ensures
