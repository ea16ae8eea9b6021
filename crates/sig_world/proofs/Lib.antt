mod EndsLemmas
mod HearerLemmas
mod ReplayerLemmas
mod SenderLemmas
mod OwedLines
