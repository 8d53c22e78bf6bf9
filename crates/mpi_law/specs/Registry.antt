-- The central registry: what MPI 4.0 says of sessions, groups, communicators and messages, kept in one place. Sections are
-- those of MPI 4.0. This project's own are: contexts and their pick, that none may be free, when a communicator is given back,
-- that the end of a session frees its communicators, that it and a free are answered at the give-back, and the shape of
-- events.
pub mod State
pub mod Creations
pub mod Contexts
pub mod Apart
pub mod Messages
pub mod Calls
pub mod Replies
pub mod Events
pub mod Runs
pub mod Tests
