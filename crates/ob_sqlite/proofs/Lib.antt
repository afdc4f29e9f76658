mod Pushed
mod Risen
