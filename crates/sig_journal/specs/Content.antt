-- What a file holds, as it was read.
use Rattle.sig_journal.specs.declared.content.FileContent.{FileContent}
use Rattle.sig_journal.specs.Layout.{Content}

abbrev pub content_view : FileContent → Content
content_view c = record { store_id = c.store_id; snapshot = c.snapshot; records = c.records }
