use Rattle.std.proofs.Common.{◌≡◌, map, take}
use Rattle.serde_json.specs.View.{view}
use Rattle.sig_stream.specs.Configurations.{conf_data}
use Rattle.sig_txroutes.proofs.document.confs_value.Given as goal

abbrev pub invariant-loop-conf : goal.invariant-loop-conf
invariant-loop-conf l = map view l.values.items ≡ map (λ conf. conf_data conf l.base) (take l.conf-index l.confs)
