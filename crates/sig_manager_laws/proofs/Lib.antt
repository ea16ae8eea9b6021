mod Canonical
mod ReadBack
mod Queries
mod WantsBack
mod Routed
mod Told
mod Heard
