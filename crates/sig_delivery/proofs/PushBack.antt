-- The push that is written is read as that push.
use Rattle.std.proofs.Common.{false}
use Rattle.sig_http.proofs.WrittenRequest.{request_read_back}
use Rattle.sig_delivery.specs.Laws.{ReadsBackPush}
use Rattle.sig_delivery.specs.Pushes.{push_kind, push_of}

pub reads_back_push : ReadsBackPush
reads_back_push place token key rest readable = request_read_back place (push_of token key) push_kind false rest readable
