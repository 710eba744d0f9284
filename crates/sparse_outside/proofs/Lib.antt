mod Loads
mod LogLemmas
mod Puts
mod Walks
